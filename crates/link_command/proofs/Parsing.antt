-- From clap's clauses on a parse to the rows that it takes.
use Rattle.std.proofs.Common.{◌≡◌, ◌⊎◌, ◌∙◌, ap, refl, sym, true, List, [], ◌∷◌, Some, None, inl, inr}
use Rattle.clap.specs.Words.{App, HasMatchesOf, IsAmong, Kinds, Row, Text, fault_of, is_simple_and_free, is_simple, matches_of}
use Rattle.clap.specs.declared.error.kind.ErrorKind.{ErrorKind}
use Rattle.clap.specs.declared.error.kind.ErrorKind.TheVariants.{OutOfMemory}
use Rattle.clap.specs.declared.parser.ArgMatches.{ArgMatches}
use Rattle.link_command.specs.Grammar.{rows_in, rvld_app, taken, without_fault}

-- the command is one of which clap tells the matches and the kinds of failure
pub rvld_is_simple : is_simple rvld_app ≡ true
unfolding rvld_app
rvld_is_simple = refl

pub rvld_is_free : is_simple_and_free rvld_app ≡ true
unfolding rvld_app
rvld_is_free = refl

-- a parse with no fault is taken
pub taken_rows : (app : App) (words : List Text) (m : ArgMatches) → app ≡ rvld_app
    → (is_simple_and_free app ≡ true → fault_of app words ≡ []) → HasMatchesOf app words m
    → Some (rows_in m) ≡ taken words
unfolding taken
taken_rows app words m is faults matches =
    let found = matches (ap is_simple is ∙ rvld_is_simple) in
    let sound = faults (ap is_simple_and_free is ∙ rvld_is_free) in
    let same : fault_of rvld_app words ≡ [] = ap (λ a. fault_of a words) (sym is) ∙ sound in
    let rows : rows_in m ≡ matches_of rvld_app words = found.0 ∙ ap (λ a. matches_of a words) is in
    ap Some rows ∙ ap (without_fault (matches_of rvld_app words)) (sym same)

fault_refuses : (rows : List Row) (kinds : Kinds) (kind : ErrorKind) → (kind ≡ OutOfMemory) ⊎ IsAmong kind kinds
    → (kind ≡ OutOfMemory → ⊥) → None ≡ without_fault rows kinds
fault_refuses rows kinds kind (inl memory) other = absurd (other memory)
fault_refuses rows [] kind (inr among) other = absurd among
fault_refuses rows (k ∷ ks) kind (inr among) other = refl

-- a parse with a fault that is not want of memory is refused
pub refused_words : (app : App) (words : List Text) (kind : ErrorKind) → app ≡ rvld_app
    → (is_simple_and_free app ≡ true → (kind ≡ OutOfMemory) ⊎ IsAmong kind (fault_of app words))
    → (kind ≡ OutOfMemory → ⊥) → None ≡ taken words
unfolding taken
refused_words app words kind is faults other =
    fault_refuses (matches_of rvld_app words) (fault_of app words) kind (faults (ap is_simple_and_free is ∙ rvld_is_free)) other
    ∙ ap (λ a. without_fault (matches_of rvld_app words) (fault_of a words)) is
