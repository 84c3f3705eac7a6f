-- The status of an ending, and the exit statuses of the program.
use Rattle.std.specs.Prelude.{ℕ}
use Rattle.tool_texts.specs.declared.output.Ending.{Ending}
use Rattle.tool_texts.specs.declared.output.Ending.TheVariants as ending
use Rattle.tool_texts.specs.declared.status.Status.{Status}
use Rattle.tool_texts.specs.declared.status.Status.TheVariants.{Done, Usage, Refused, Rejected, Undecided}
use Rattle.tool_texts.specs.declared.status.Status.TheVariants.{Differs, ReadFault, WriteFault, NoMemory}

abbrev pub status_of : Ending → Status
status_of ending.Done = Done
status_of ending.Usage = Usage
status_of ending.Refused = Refused
status_of ending.Rejected = Rejected
status_of ending.Undecided = Undecided
status_of ending.Differs = Differs
status_of ending.ReadFault = ReadFault

abbrev pub code_of : Status → ℕ
code_of Done = 0
code_of Usage = 1
code_of Refused = 2
code_of Rejected = 3
code_of Undecided = 4
code_of Differs = 5
code_of ReadFault = 6
code_of WriteFault = 7
code_of NoMemory = 8
