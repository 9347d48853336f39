-- The text of an option that takes one value, from what a parse says of its entry.
use Rattle.std.proofs.Common.{◌≡◌, ◌<◌, ◌≤◌, ◌∙◌, ◌⊎◌, ap, refl, sym, subst, arith, ℕ, zero, suc, Bool, true, false, List, [], ◌∷◌, length, Option, Some, None, is_some, inl, inr}
use Rattle.std.specs.Prelude.{slice_get, find, option_map}
use Rattle.std.specs.List.{All, slice_index_or}
use Rattle.std.specs.Str.{bytes_eq}
use Rattle.std.specs.Borrow.{Bor}
use Rattle.std.proofs.lemmas.List.Elements.{All-get_or}
use Rattle.std.proofs.lemmas.Slice.Eq.{bytes_eq-Decides}
use Rattle.clap.specs.Words.{Accepts, Text, args_of, groups_of, matched_of, one_text, parser_of, read_as, reading_of}
use Rattle.clap.specs.Facts.{Entry, EntryPasses, HasId, HasIn, HasReading, PassesArg, ValuesPass, least_values, parser_of_value}
use Rattle.clap.specs.declared.builder.action.ArgAction.TheVariants.{Count, Set}
use Rattle.clap.specs.declared.builder.arg.Arg.{Arg}
use Rattle.clap.specs.declared.builder.command.Command.{Command}
use Rattle.clap.specs.declared.builder.value_parser.Reading.{Reading}
use Rattle.clap.specs.declared.builder.value_parser.ValueParser.{ValueParser}
use Rattle.clap.specs.declared.parser.matches.Found.{Found}
use Rattle.clap.specs.declared.parser.matches.MatchedArg.{MatchedArg}
use Rattle.clap.proofs.CallerLemmas.{entry_by_id}

-- an option that takes one value, which passes this parser
pub record IsValued (parser : ValueParser) (a : Arg) : Type 0 where
  pub action : a.action ≡ Some Set
  pub least : 1 ≤ least_values a
  pub whole : a.val_delim ≡ None
  pub parser_is : a.value_parser ≡ Some parser

-- each argument of this id is such an option
abbrev pub AllValued : Command → Text → ValueParser → Type 0
AllValued c id parser = (k : ℕ) (a : Arg) → k < length (args_of c) → slice_index_or (args_of c) k a ≡ a
    → bytes_eq a.id.now id ≡ true → IsValued parser a

-- an id that has an entry is found
pub found_in : (xs : List Entry) (id : Text) → HasIn xs id → is_some (option_map (λ e. e.1) (find (λ e. bytes_eq e.0.now id) xs)) ≡ true
found_in [] id has = absurd (omega (arith, has.1))
found_in (x ∷ xs) id has = go (bytes_eq x.0.now id) refl (found_in xs id)
  where
    later : (t : Bool) → bytes_eq x.0.now id ≡ false → (i : ℕ) → i < length (x ∷ xs)
        → ((d : Entry) → bytes_eq (slice_index_or (x ∷ xs) i d).0.now id ≡ true) → HasIn xs id
    later t off zero lt at = let bad : false ≡ true = sym off ∙ at x in cc
    later t off (suc i) lt at = (i, omega arith, at)

    go : (t : Bool) → bytes_eq x.0.now id ≡ t → (HasIn xs id → is_some (option_map (λ e. e.1) (find (λ e. bytes_eq e.0.now id) xs)) ≡ true)
        → is_some (option_map (λ e. e.1) (find (λ e. bytes_eq e.0.now id) (x ∷ xs))) ≡ true
    go true t rest = rw t refl
    go false t rest = rw t (rest (later false t has.0 has.1 has.2))

head_of : (P : Bor Text → Type 0) (how : Reading) (vs : List (Bor Text)) → All P vs → 0 < length vs
    → (v : Bor Text) × (option_map (λ s. read_as how s.now) (slice_get vs 0) ≡ Some (read_as how v.now)) × P v
head_of P how [] all some = absurd (omega arith)
head_of P how (v ∷ vs) all some = (v, refl, All-get_or P (v ∷ vs) 0 v (omega arith) all)

module _ (c : Command) (f : Found) (id : Text) (parser : ValueParser) (valued : AllValued c id parser)
    (no_groups : groups_of c ≡ []) (named : id ≡ [] → ⊥) where
  abbrev Gives : Type 0
  Gives = (t : Text) × (one_text f id ≡ Some (read_as (reading_of parser) t)) × ((b : Bool) × Accepts b parser t)

  accepted : (v : Text) → PassesArg c id v → (b : Bool) × Accepts b parser v
  accepted v pass =
      let is = valued pass.0 pass.1 pass.2 pass.3 pass.4.0 in
      let same : parser_of pass.1 ≡ parser = ap parser_of_value is.parser_is in
      (pass.1.ignore_case, subst (λ (p : ValueParser). Accepts pass.1.ignore_case p v) same pass.4.1)

  read_so : (r : Reading) → HasReading c id r → r ≡ reading_of parser
  read_so r has =
      let is = valued has.0 has.1 has.2 has.3 has.4.0 in
      sym has.4.1 ∙ ap (λ p. reading_of (parser_of_value p)) is.parser_is

  -- the entry of the id has a value that passed, and is read as the parser says
  of_entry : (x : MatchedArg) (e : Entry) → matched_of f id ≡ Some x → e.1 ≡ x → e.0.now ≡ id → EntryPasses c e → Gives
  of_entry x e found same key pass =
      let no_group : e.1.is_group ≡ true → ⊥ = λ g. elim (pass.3 g) [
        | inl empty ↦ named (sym key ∙ empty)
        | inr lots ↦
            let bad : 0 < 0 = rw no_groups at lots in
            absurd (omega arith)
      ] in
      let all : All (λ v. PassesArg c id v.now) e.1.vals.items = elim pass.0 [
        | inl g ↦ absurd (no_group g)
        | inr vals ↦ subst (λ (w : Text). All (λ v. PassesArg c w v.now) e.1.vals.items) key vals
      ] in
      let how : e.1.reading ≡ reading_of parser = elim pass.4 [
        | inl g ↦ absurd (no_group g)
        | inr h ↦ read_so e.1.reading (subst (λ (w : Text). HasReading c w e.1.reading) key h)
      ] in
      let filled : 0 < length e.1.vals.items = elim pass.1 [
        | inl g ↦ absurd (no_group g.0)
        | inr (inl v) ↦ v
        | inr (inr (inl h)) ↦
            let is = valued h.1.0 h.1.1 h.1.2 h.1.3 (subst (λ (w : Text). bytes_eq h.1.1.id.now w ≡ true) key h.1.4.0) in
            let set : h.1.1.action ≡ Some Set = is.action in
            let bad : Set ≡ Count = rw set at h.1.4.1 in
            cc
        | inr (inr (inr h)) ↦
            let is = valued h.0 h.1 h.2 h.3 (subst (λ (w : Text). bytes_eq h.1.id.now w ≡ true) key h.4.0) in
            elim h.4.1 [
              | inl none ↦
                  let one = is.least in
                  absurd (omega arith)
              | inr cut ↦
                  let bad : false ≡ true = rw is.whole at cut in
                  cc
            ]
      ] in
      let first = head_of (λ v. PassesArg c id v.now) (reading_of parser) e.1.vals.items all filled in
      (first.0.now, rw (found, ← same, how) first.1, accepted first.0.now first.2)

  -- the id has no text, or one that passed
  pub text_if_any : ValuesPass c f → (one_text f id ≡ None) ⊎ Gives
  text_if_any values = go (matched_of f id) refl
    where
      go : (o : Option MatchedArg) → matched_of f id ≡ o → (one_text f id ≡ None) ⊎ Gives
      go None is = inl (rw is refl)
      go (Some x) is =
          let got = entry_by_id (EntryPasses c) f.entries.items id x values is in
          inr (of_entry x got.0 is got.1 ((bytes_eq-Decides got.0.0.now id).0 got.2) got.3)

  -- where the id has an entry, it has a text
  pub text_given : ValuesPass c f → HasId f id → Gives
  text_given values has = go (matched_of f id) refl (found_in f.entries.items id has)
    where
      go : (o : Option MatchedArg) → matched_of f id ≡ o → is_some (matched_of f id) ≡ true → Gives
      go None is some = let bad : false ≡ true = rw is at some in cc
      go (Some x) is some =
          let got = entry_by_id (EntryPasses c) f.entries.items id x values is in
          of_entry x got.0 is got.1 ((bytes_eq-Decides got.0.0.now id).0 got.2) got.3
