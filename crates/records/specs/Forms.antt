-- The forms of fields: what a field of each form may hold, and which forms the fields of a kind have.
--
-- | word     | meaning                                                              |
-- |----------|----------------------------------------------------------------------|
-- | Fits     | the bytes have the form; a build has its form whatever its depth     |
-- | Unfit    | they have not                                                        |
-- | Deep     | the bytes are a build that is nested deeper than a line may have it  |
-- | Bad      | the bytes are refused for a cause, as a field of the form            |
-- | Fine     | they are not                                                         |
-- | forms    | the forms of the fields that follow the word of a kind               |
use Rattle.std.specs.Prelude.{◌≡◌, ℕ, ◌<◌, ◌≤◌, List, [], ◌∷◌}
use Rattle.theory.specs.Names.{IsName}
use Rattle.theory.specs.Builds.{Build, Lawful, text, depth}
use Rattle.records.specs.Numbers.{IsNumber, value}
use Rattle.text.specs.Kinds.{version, rule_word}
use Rattle.text.specs.declared.cause.FieldCause.{FieldCause}
use Rattle.text.specs.declared.cause.FieldCause.TheVariants.{Broken, TooDeep, WrongTotal}
use Rattle.text.specs.declared.kind.Kind.{Kind}
use Rattle.text.specs.declared.kind.Kind.TheVariants.{Log, Flex, End, Sheet, Cost, Stock, Pair, Best}
use Rattle.text.specs.declared.kind.Rule.{Rule}
use Rattle.records.specs.declared.form.Form.{Form}
use Rattle.records.specs.declared.form.Form.TheVariants as form

-- the deepest build that a line may have
abbrev pub deepest : ℕ
deepest = 32

-- the highest price
abbrev pub dearest : ℕ
dearest = 10000

abbrev pub Fits : Form → List ℕ → Type 0
Fits form.Version f = f ≡ version
Fits form.Build f = (u : Build) × Lawful u × (text u ≡ f)
Fits form.Name f = IsName f
Fits form.Number f = IsNumber f
Fits form.Price f = IsNumber f × (value f ≤ dearest)
Fits form.Rule f = (r : Rule) × (f ≡ rule_word r)

abbrev pub Unfit : Form → List ℕ → Type 0
Unfit k f = Fits k f → ⊥

abbrev pub DeeperThan : ℕ → Form → List ℕ → Type 0
DeeperThan levels form.Version f = ⊥
DeeperThan levels form.Build f = (u : Build) × Lawful u × (text u ≡ f) × (levels < depth u)
DeeperThan levels form.Name f = ⊥
DeeperThan levels form.Number f = ⊥
DeeperThan levels form.Price f = ⊥
DeeperThan levels form.Rule f = ⊥

abbrev pub Deep : Form → List ℕ → Type 0
Deep = DeeperThan deepest

-- what a field is refused for, and what holds of it where it is not
abbrev pub Bad : FieldCause → Form → List ℕ → Type 0
Bad Broken k f = Unfit k f
Bad TooDeep k f = Deep k f
Bad WrongTotal k f = ⊥

abbrev pub Fine : FieldCause → Form → List ℕ → Type 0
Fine Broken k f = Fits k f
Fine TooDeep k f = Deep k f → ⊥
Fine WrongTotal k f = ⊥ → ⊥

abbrev pub forms : Kind → List Form
forms Log = form.Version ∷ []
forms Flex = form.Build ∷ form.Build ∷ []
forms End = form.Number ∷ []
forms Sheet = form.Rule ∷ []
forms Cost = form.Name ∷ form.Price ∷ []
forms Stock = form.Name ∷ []
forms Pair = form.Build ∷ form.Build ∷ []
forms Best = form.Build ∷ []
