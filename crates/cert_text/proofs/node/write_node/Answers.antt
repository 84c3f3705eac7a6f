use Rattle.std.proofs.Common.{◌≡◌, ◌++◌, sym, subst}
use Rattle.json.specs.Print.{escape_byte}
use Rattle.cert_base.specs.declared.node.Node.{Node}
use Rattle.serde_json.specs.Written.{compact_text}
use Rattle.cert_json.specs.Written.{node_data}
use Rattle.cert_text.proofs.node.write_node.Goals as goal

pub returns-in_ok-push_numbered-in-Present : goal.returns-in_ok-push_numbered-in-Present
unfolding escape_byte
returns-in_ok-push_numbered-in-Present c =
    subst (λ (node : Node). c.push_numbered.new.out.items ≡ c.args.out.now.items ++ compact_text (node_data node)) (sym c.in-Present.is) (rw c.from.ensures at c.in_ok-push_numbered-in-Present.ensures)

pub returns-in_ok-push_numbered-in-Twin : goal.returns-in_ok-push_numbered-in-Twin
unfolding escape_byte
returns-in_ok-push_numbered-in-Twin c =
    subst (λ (node : Node). c.push_numbered-in-Twin.new.out.items ≡ c.args.out.now.items ++ compact_text (node_data node)) (sym c.in-Twin.is) (rw c.from-in-Twin.ensures at c.in_ok-push_numbered-in-Twin.ensures)

pub returns-in_ok-push_numbered-in-Open : goal.returns-in_ok-push_numbered-in-Open
unfolding escape_byte
returns-in_ok-push_numbered-in-Open c =
    subst (λ (node : Node). c.push_numbered-in-Open.new.out.items ≡ c.args.out.now.items ++ compact_text (node_data node)) (sym c.in-Open.is) (rw c.from-in-Open.ensures at c.in_ok-push_numbered-in-Open.ensures)

pub returns-in_ok-write_states-in-Trap : goal.returns-in_ok-write_states-in-Trap
unfolding escape_byte
returns-in_ok-write_states-in-Trap c =
    subst (λ (node : Node). c.write_states.new.out.items ≡ c.args.out.now.items ++ compact_text (node_data node)) (sym c.in-Trap.is) (rw c.as_slice-in-Trap.ensures at c.in_ok-write_states-in-Trap.ensures)

pub returns-in_ok-write_states-in-Siphon : goal.returns-in_ok-write_states-in-Siphon
unfolding escape_byte
returns-in_ok-write_states-in-Siphon c =
    subst (λ (node : Node). c.write_states-in-Siphon.new.out.items ≡ c.args.out.now.items ++ compact_text (node_data node)) (sym c.in-Siphon.is) (rw c.as_slice-in-Siphon.ensures at c.in_ok-write_states-in-Siphon.ensures)

pub returns-in_ok-write_states-in-First : goal.returns-in_ok-write_states-in-First
unfolding escape_byte
returns-in_ok-write_states-in-First c =
    subst (λ (node : Node). c.write_states-in-First.new.out.items ≡ c.args.out.now.items ++ compact_text (node_data node)) (sym c.in-First.is) (rw c.as_slice-in-First.ensures at c.in_ok-write_states-in-First.ensures)
