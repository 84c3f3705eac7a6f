-- A remainder is below its modulus.
use Rattle.std.proofs.Common.{ℕ, ◌<◌, arith}
use Rattle.std.specs.Prelude.{ℤ, pos, negsuc}
use Rattle.std.proofs.Math.Nat.{mod-lt}
use Rattle.comp_remainder.specs.RemainderLeaf.{residue_of}

pub residue-below : (m : ℕ) (a : ℤ) → 0 < m → residue_of m a < m
residue-below m (pos k) l = mod-lt k l
residue-below m (negsuc k) l = omega arith
