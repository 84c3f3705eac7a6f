-- How the reason for a bad word is printed.
use Rattle.std.specs.Prelude.{ℕ, List, ◌++◌, codes, decimal}
use Rattle.pop_words.specs.declared.command.Usage.{Usage}
use Rattle.pop_words.specs.declared.command.UsageWhy.{UsageWhy}
use Rattle.pop_words.specs.declared.command.UsageWhy.TheVariants.{Missing, Unknown, Twice, Value, Product}

abbrev pub usage_reason : UsageWhy → List ℕ
usage_reason Missing = codes "missing"
usage_reason Unknown = codes "unknown"
usage_reason Twice = codes "twice"
usage_reason Value = codes "value"
usage_reason Product = codes "product"

-- the number of the bad word, and the reason
abbrev pub bad_word : Usage → List ℕ
bad_word usage = decimal usage.word ++ codes " " ++ usage_reason usage.why
