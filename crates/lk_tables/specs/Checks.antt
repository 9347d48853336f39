-- A format's checks as a list of lines, each with the flaw that it reports: the order of the lines is the order of the
-- checks, and the first broken one is the answer.
use Rattle.std.specs.Prelude.{◌≡◌, ℕ, ◌-◌, Bool, true, false, Result, Ok, Err, if◌then◌else◌, List, [], ◌∷◌, ◌++◌, flat_map}
use Rattle.std.specs.List.{AllByRecursion, range_with_len}
use Rattle.lk_base.specs.declared.defects.Flaw.{Flaw}
use Rattle.lk_base.specs.declared.defects.ReadFault.{ReadFault}
use Rattle.lk_base.specs.declared.defects.ReadFault.TheVariants.{Bad, Memory}
use Rattle.lk_base.specs.declared.kinds.DefectKind.{DefectKind}

pub record Check : Type 0 where
  pub broken : Bool
  pub flaw : Flaw

infix 5 ◌says◌
abbrev pub ◌says◌ : Bool → Flaw → Check
broken says flaw = record { broken = broken; flaw = flaw }

-- the value if no check is broken, else the flaw of the first that is
abbrev pub checked : {A : Type 0} → List Check → A → Result A Flaw
checked [] value = Ok value
checked (c ∷ cs) value = if c.broken then Err c.flaw else checked cs value

abbrev pub passes : List Check → Result (Unit {0}) Flaw
passes cs = checked cs tt

-- the checks of the numbers from `i` on and below `n`, in order
abbrev pub from_on : (ℕ → List Check) → ℕ → ℕ → List Check
from_on f i n = flat_map f (range_with_len i (n - i))

abbrev pub NoneBroken : List Check → Type 0
NoneBroken cs = AllByRecursion (λ c. c.broken ≡ false) cs

-- the flaw is that of a broken check before which none is broken
pub record IsFirstBroken (cs : List Check) (flaw : Flaw) : Type 0 where
  pub before : List Check
  pub first : Check
  pub later : List Check
  pub parts : cs ≡ before ++ (first ∷ later)
  pub passed : NoneBroken before
  pub broken : first.broken ≡ true
  pub flaw_is : flaw ≡ first.flaw

-- a flaw of one section's header or entries
abbrev pub flaw_at : DefectKind → (section place : ℕ) → Flaw
flaw_at kind section place = record { kind = kind; section = section; place = place; other = 0 }

-- what a reader answered, without the value
abbrev pub outcome : {A : Type 0} → Result A Flaw → Result (Unit {0}) Flaw
outcome (Ok value) = Ok tt
outcome (Err flaw) = Err flaw

-- What a reader answered, seen by `view`, is what is read, unless memory ran out.
abbrev pub Fails : {Y : Type 0} → ReadFault → Result Y Flaw → Type 0
Fails Memory read = Unit {0}
Fails (Bad flaw) read = read ≡ Err flaw

abbrev pub Gives : {X Y : Type 0} → (X → Y) → Result X ReadFault → Result Y Flaw → Type 0
Gives view (Ok value) read = read ≡ Ok (view value)
Gives view (Err fault) read = Fails fault read

-- A reader's answer is that of the checks, unless memory ran out.
abbrev pub Follows : {X : Type 0} → Result X ReadFault → List Check → Type 0
Follows (Ok value) cs = passes cs ≡ Ok tt
Follows (Err fault) cs = Fails fault (passes cs)
