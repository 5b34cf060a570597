-- The words of lines: the eight kinds of line, and the price rules that a SHEET line may name.
--
-- | word        | meaning                              |
-- |-------------|--------------------------------------|
-- | version     | the one version of logs              |
-- | word        | the first field of a line of a kind  |
-- | kinds       | all the kinds of line                |
-- | rule_word   | the word that picks a price rule     |
-- | price_rules | all the price rules                  |
use Rattle.std.specs.Prelude.{ℕ, List, [], ◌∷◌, Contains, codes, refl}
use Rattle.std.proofs.Common.{lit<}
use Rattle.text.specs.declared.kind.Kind.{Kind}
use Rattle.text.specs.declared.kind.Kind.TheVariants.{Log, Flex, End, Sheet, Cost, Stock, Pair, Best}
use Rattle.text.specs.declared.kind.Rule.{Rule}
use Rattle.text.specs.declared.kind.Rule.TheVariants as rule

abbrev pub version : List ℕ
version = codes "1"

abbrev pub word : Kind → List ℕ
word Log = codes "LOG"
word Flex = codes "FLEX"
word End = codes "END"
word Sheet = codes "SHEET"
word Cost = codes "COST"
word Stock = codes "STOCK"
word Pair = codes "PAIR"
word Best = codes "BEST"

-- all the kinds, and that each is one of them
abbrev pub kinds : List Kind
kinds = Log ∷ Flex ∷ End ∷ Sheet ∷ Cost ∷ Stock ∷ Pair ∷ Best ∷ []

pub kinds-complete : (k : Kind) → Contains kinds k
kinds-complete Log = (0, lit< tt, refl)
kinds-complete Flex = (1, lit< tt, refl)
kinds-complete End = (2, lit< tt, refl)
kinds-complete Sheet = (3, lit< tt, refl)
kinds-complete Cost = (4, lit< tt, refl)
kinds-complete Stock = (5, lit< tt, refl)
kinds-complete Pair = (6, lit< tt, refl)
kinds-complete Best = (7, lit< tt, refl)

abbrev pub rule_word : Rule → List ℕ
rule_word rule.Bill = codes "bill"
rule_word rule.Stock = codes "stock"
rule_word rule.Steps = codes "steps"

-- all the price rules, and that each is one of them
abbrev pub price_rules : List Rule
price_rules = rule.Bill ∷ rule.Stock ∷ rule.Steps ∷ []

pub price_rules-complete : (r : Rule) → Contains price_rules r
price_rules-complete rule.Bill = (0, lit< tt, refl)
price_rules-complete rule.Stock = (1, lit< tt, refl)
price_rules-complete rule.Steps = (2, lit< tt, refl)
