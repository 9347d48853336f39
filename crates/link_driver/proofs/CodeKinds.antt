-- What the lines of the table say of the kinds of code: jumps and calls, upper and lower parts.
use Rattle.std.proofs.Common.{◌≡◌, ℕ, ◌==◌, Bool, true, false, if◌then◌else◌, Some, None, List, [], ◌∷◌, refl, sym, subst, inl, inr, ℤ}
use Rattle.std.proofs.lemmas.Bool.{eqb-true, or_cases}
use Rattle.lk_base.specs.Formats.{i_format, plain, s_format, upper}
use Rattle.lk_base.specs.RelocKinds.{far, is_among, is_lower, is_uleb, is_upper, kind_of}
use Rattle.lk_base.specs.declared.abi.TheConstants.{R_RISCV_BRANCH, R_RISCV_CALL, R_RISCV_CALL_PLT, R_RISCV_GOT_HI20, R_RISCV_HI20, R_RISCV_JAL, R_RISCV_LO12_I, R_RISCV_LO12_S, R_RISCV_PCREL_HI20, R_RISCV_PCREL_LO12_I, R_RISCV_PCREL_LO12_S, R_RISCV_RVC_BRANCH, R_RISCV_RVC_JUMP, R_RISCV_TLS_GD_HI20, R_RISCV_TLS_GOT_HI20, R_RISCV_TPREL_HI20, R_RISCV_TPREL_LO12_I, R_RISCV_TPREL_LO12_S}
use Rattle.lk_base.specs.declared.relocations.Calculation.{Calculation}
use Rattle.lk_base.specs.declared.relocations.Calculation.TheVariants.{Nothing, Hint, Padding, Address, Distance, Partner, GotDistance, ThreadOffset, Increase, Decrease}
use Rattle.link_sections.specs.declared.got.GotUse.{GotUse}
use Rattle.link_sections.specs.declared.got.GotUse.TheVariants as uses
use Rattle.link_sections.specs.Calls.{is_call}
use Rattle.link_sections.specs.GotEntries.{use_of}
use Rattle.reloc_apply.specs.Values.{computed}
use Rattle.link_driver.specs.Code.{address_kinds, lower_i_kinds, lower_s_kinds, thread_kinds, upper_kinds}

-- what holds of each of some numbers
abbrev pub Each : (P : ℕ → Type 0) → List ℕ → Type 0
Each P [] = Unit {0}
Each P (n ∷ ns) = P n × Each P ns

pub among_all : (P : ℕ → Type 0) (ns : List ℕ) (n : ℕ) → is_among ns n ≡ true → Each P ns → P n
among_all P [] n is all = let none : ⊥ = cc in absurd none
among_all P (m ∷ ms) n is all = elim (or_cases (m == n) (is_among ms n) is) [
  | inl same ↦ subst P (eqb-true m n same) all.0
  | inr rest ↦ among_all P ms n rest all.1
]

-- it adds to what its place holds, or takes away from it
abbrev pub uses_held : Calculation → Bool
uses_held Increase = true
uses_held Decrease = true
uses_held _ = false

pub computed_same : (c : Calculation) (sum place thread entry x y : ℤ) → uses_held c ≡ false → computed c sum place thread entry x ≡ computed c sum place thread entry y
computed_same Nothing sum place thread entry x y none = refl
computed_same Hint sum place thread entry x y none = refl
computed_same Padding sum place thread entry x y none = refl
computed_same Address sum place thread entry x y none = refl
computed_same Distance sum place thread entry x y none = refl
computed_same Partner sum place thread entry x y none = refl
computed_same GotDistance sum place thread entry x y none = refl
computed_same ThreadOffset sum place thread entry x y none = refl
computed_same Increase sum place thread entry x y none = cc
computed_same Decrease sum place thread entry x y none = cc

-- branches, jumps and calls
pub record IsJumpLine (kind : ℕ) : Type 0 where
  pub calculation : (kind_of kind).calculation ≡ Distance
  pub lower : is_lower kind ≡ false
  pub uleb : is_uleb kind ≡ false

abbrev pub jump_kinds : List ℕ
jump_kinds = R_RISCV_BRANCH ∷ R_RISCV_JAL ∷ R_RISCV_CALL ∷ R_RISCV_CALL_PLT ∷ R_RISCV_RVC_BRANCH ∷ R_RISCV_RVC_JUMP ∷ []

branch_line : IsJumpLine R_RISCV_BRANCH
unfolding kind_of is_lower is_uleb
branch_line = record { calculation = refl; lower = refl; uleb = refl }

jal_line : IsJumpLine R_RISCV_JAL
unfolding kind_of is_lower is_uleb
jal_line = record { calculation = refl; lower = refl; uleb = refl }

call_line : IsJumpLine R_RISCV_CALL
unfolding kind_of is_lower is_uleb
call_line = record { calculation = refl; lower = refl; uleb = refl }

other_call_line : IsJumpLine R_RISCV_CALL_PLT
unfolding kind_of is_lower is_uleb
other_call_line = record { calculation = refl; lower = refl; uleb = refl }

short_branch_line : IsJumpLine R_RISCV_RVC_BRANCH
unfolding kind_of is_lower is_uleb
short_branch_line = record { calculation = refl; lower = refl; uleb = refl }

short_jump_line : IsJumpLine R_RISCV_RVC_JUMP
unfolding kind_of is_lower is_uleb
short_jump_line = record { calculation = refl; lower = refl; uleb = refl }

all_jumps : Each IsJumpLine (R_RISCV_BRANCH ∷ R_RISCV_JAL ∷ R_RISCV_CALL ∷ R_RISCV_CALL_PLT ∷ R_RISCV_RVC_BRANCH ∷ R_RISCV_RVC_JUMP ∷ [])
all_jumps = (branch_line, (jal_line, (call_line, (other_call_line, (short_branch_line, (short_jump_line, tt))))))

pub jump_is : (kind : ℕ) → is_among jump_kinds kind ≡ true → IsJumpLine kind
jump_is kind is = among_all IsJumpLine jump_kinds kind is all_jumps

pub call_is : (kind : ℕ) → is_call kind ≡ true → IsJumpLine kind
unfolding is_call
call_is kind is = among_all IsJumpLine (R_RISCV_CALL ∷ R_RISCV_CALL_PLT ∷ []) kind is (call_line, (other_call_line, tt))

-- upper parts
pub record IsUpperLine (kind : ℕ) : Type 0 where
  pub field : (kind_of kind).field ≡ upper
  pub reach : (kind_of kind).reach ≡ far
  pub held : uses_held (kind_of kind).calculation ≡ false
  pub lower : is_lower kind ≡ false
  pub uleb : is_uleb kind ≡ false
  pub call : is_call kind ≡ false

got_line : IsUpperLine R_RISCV_GOT_HI20
unfolding kind_of is_lower is_uleb is_call
got_line = record { field = refl; reach = refl; held = refl; lower = refl; uleb = refl; call = refl }

tls_got_line : IsUpperLine R_RISCV_TLS_GOT_HI20
unfolding kind_of is_lower is_uleb is_call
tls_got_line = record { field = refl; reach = refl; held = refl; lower = refl; uleb = refl; call = refl }

tls_gd_line : IsUpperLine R_RISCV_TLS_GD_HI20
unfolding kind_of is_lower is_uleb is_call
tls_gd_line = record { field = refl; reach = refl; held = refl; lower = refl; uleb = refl; call = refl }

pcrel_line : IsUpperLine R_RISCV_PCREL_HI20
unfolding kind_of is_lower is_uleb is_call
pcrel_line = record { field = refl; reach = refl; held = refl; lower = refl; uleb = refl; call = refl }

absolute_line : IsUpperLine R_RISCV_HI20
unfolding kind_of is_lower is_uleb is_call
absolute_line = record { field = refl; reach = refl; held = refl; lower = refl; uleb = refl; call = refl }

thread_line : IsUpperLine R_RISCV_TPREL_HI20
unfolding kind_of is_lower is_uleb is_call
thread_line = record { field = refl; reach = refl; held = refl; lower = refl; uleb = refl; call = refl }

all_upper : Each IsUpperLine (R_RISCV_GOT_HI20 ∷ R_RISCV_TLS_GOT_HI20 ∷ R_RISCV_TLS_GD_HI20 ∷ R_RISCV_PCREL_HI20 ∷ R_RISCV_HI20 ∷ R_RISCV_TPREL_HI20 ∷ [])
all_upper = (got_line, (tls_got_line, (tls_gd_line, (pcrel_line, (absolute_line, (thread_line, tt))))))

pub upper_is : (kind : ℕ) → is_among upper_kinds kind ≡ true → IsUpperLine kind
upper_is kind is = among_all IsUpperLine upper_kinds kind is all_upper

-- those whose lower parts stand by a label
pub label_is : (kind : ℕ) → is_upper kind ≡ true → IsUpperLine kind
unfolding is_upper
label_is kind is =
    among_all IsUpperLine (R_RISCV_GOT_HI20 ∷ R_RISCV_TLS_GOT_HI20 ∷ R_RISCV_TLS_GD_HI20 ∷ R_RISCV_PCREL_HI20 ∷ []) kind is (got_line, (tls_got_line, (tls_gd_line, (pcrel_line, tt))))

-- lower parts
pub record IsLowerI (kind : ℕ) : Type 0 where
  pub field : (kind_of kind).field ≡ plain i_format
  pub uleb : is_uleb kind ≡ false
  pub call : is_call kind ≡ false

pub record IsLowerS (kind : ℕ) : Type 0 where
  pub field : (kind_of kind).field ≡ plain s_format
  pub uleb : is_uleb kind ≡ false
  pub call : is_call kind ≡ false

pcrel_i : IsLowerI R_RISCV_PCREL_LO12_I
unfolding kind_of is_uleb is_call
pcrel_i = record { field = refl; uleb = refl; call = refl }

absolute_i : IsLowerI R_RISCV_LO12_I
unfolding kind_of is_uleb is_call
absolute_i = record { field = refl; uleb = refl; call = refl }

thread_i : IsLowerI R_RISCV_TPREL_LO12_I
unfolding kind_of is_uleb is_call
thread_i = record { field = refl; uleb = refl; call = refl }

pcrel_s : IsLowerS R_RISCV_PCREL_LO12_S
unfolding kind_of is_uleb is_call
pcrel_s = record { field = refl; uleb = refl; call = refl }

absolute_s : IsLowerS R_RISCV_LO12_S
unfolding kind_of is_uleb is_call
absolute_s = record { field = refl; uleb = refl; call = refl }

thread_s : IsLowerS R_RISCV_TPREL_LO12_S
unfolding kind_of is_uleb is_call
thread_s = record { field = refl; uleb = refl; call = refl }

pub lower_i_is : (kind : ℕ) → is_among lower_i_kinds kind ≡ true → IsLowerI kind
lower_i_is kind is = among_all IsLowerI lower_i_kinds kind is (pcrel_i, (absolute_i, (thread_i, tt)))

pub lower_s_is : (kind : ℕ) → is_among lower_s_kinds kind ≡ true → IsLowerS kind
lower_s_is kind is = among_all IsLowerS lower_s_kinds kind is (pcrel_s, (absolute_s, (thread_s, tt)))

-- what is computed for the two parts of an address and of an offset in thread-local storage, for the upper part of a distance, and for those that ask for
-- an entry of the linker's table
abbrev pub Computes : Calculation → (kind : ℕ) → Type 0
Computes c kind = (kind_of kind).calculation ≡ c

all_addresses : Each (Computes Address) (R_RISCV_HI20 ∷ R_RISCV_LO12_I ∷ R_RISCV_LO12_S ∷ [])
unfolding kind_of
all_addresses = (refl, (refl, (refl, tt)))

pub address_is : (kind : ℕ) → is_among address_kinds kind ≡ true → Computes Address kind
address_is kind is = among_all (Computes Address) address_kinds kind is all_addresses

all_threads : Each (Computes ThreadOffset) (R_RISCV_TPREL_HI20 ∷ R_RISCV_TPREL_LO12_I ∷ R_RISCV_TPREL_LO12_S ∷ [])
unfolding kind_of
all_threads = (refl, (refl, (refl, tt)))

pub thread_is : (kind : ℕ) → is_among thread_kinds kind ≡ true → Computes ThreadOffset kind
thread_is kind is = among_all (Computes ThreadOffset) thread_kinds kind is all_threads

pcrel_computes : Computes Distance R_RISCV_PCREL_HI20
unfolding kind_of
pcrel_computes = refl

pub here_is : (kind : ℕ) → kind ≡ R_RISCV_PCREL_HI20 → Computes Distance kind
here_is kind same = subst (Computes Distance) (sym same) pcrel_computes

got_computes : Computes GotDistance R_RISCV_GOT_HI20
unfolding kind_of
got_computes = refl

tls_got_computes : Computes GotDistance R_RISCV_TLS_GOT_HI20
unfolding kind_of
tls_got_computes = refl

tls_gd_computes : Computes GotDistance R_RISCV_TLS_GD_HI20
unfolding kind_of
tls_gd_computes = refl

pub asks_is : (kind : ℕ) (usage : GotUse) → use_of kind ≡ Some usage → Computes GotDistance kind
unfolding use_of
asks_is kind usage is = by (kind == R_RISCV_GOT_HI20) refl (kind == R_RISCV_TLS_GOT_HI20) refl (kind == R_RISCV_TLS_GD_HI20) refl is
  where
    same : (j : ℕ) → (kind == j) ≡ true → Computes GotDistance j → Computes GotDistance kind
    same j is own = subst (Computes GotDistance) (sym (eqb-true kind j is)) own

    by : (p : Bool) → (kind == R_RISCV_GOT_HI20) ≡ p → (q : Bool) → (kind == R_RISCV_TLS_GOT_HI20) ≡ q → (t : Bool) → (kind == R_RISCV_TLS_GD_HI20) ≡ t
        → (if p then Some uses.Address else (if q then Some uses.ThreadOffset else (if t then Some uses.GeneralDynamic else None))) ≡ Some usage → Computes GotDistance kind
    by true first q second t third is = same R_RISCV_GOT_HI20 first got_computes
    by false first true second t third is = same R_RISCV_TLS_GOT_HI20 second tls_got_computes
    by false first false second true third is = same R_RISCV_TLS_GD_HI20 third tls_gd_computes
    by false first false second false third is = let none : ⊥ = cc in absurd none
