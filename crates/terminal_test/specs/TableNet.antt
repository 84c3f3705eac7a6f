-- The net that a table of pairs is for.
use Rattle.pop_leaf.specs.NetModel.{NetModel}
use Rattle.terminal_test.specs.declared.pair_table.PairTable.{PairTable}

abbrev pub table_net : PairTable → NetModel
table_net table = table.net.now
