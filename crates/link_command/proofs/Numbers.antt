-- A parse of rvld's command gives numbers in their ranges: that of workers, and that of generated objects where there is one.
use Rattle.std.proofs.Common.{◌≡◌, ◌<◌, ◌∙◌, ◌&&◌, ◌==◌, ap, refl, sym, subst, arith, not, ℕ, zero, suc, Bool, true, false, List, [], ◌∷◌, length, map, Option, Some, None, is_some, inl, inr, codes, slice_index, true≢false}
use Rattle.std.specs.Prelude.{pos}
use Rattle.std.specs.List.{list_all, slice_index_or}
use Rattle.std.specs.Str.{bytes_eq}
use Rattle.std.proofs.lemmas.List.{get_or-map, length-map}
use Rattle.std.proofs.lemmas.Bool.{eq-eqb, eqb-true}
use Rattle.clap.specs.Words.{App, IsParsedFrom, Rule, Text, app_of, args_of, groups_of, found_of, rule_of, items_of}
use Rattle.clap.specs.Built.{IsAuto, NamesNoGroup, SameRules}
use Rattle.clap.specs.Facts.{HasId, WantsDefault}
use Rattle.clap.specs.Simple.{has_plain_fields}
use Rattle.clap.specs.Walk.{is_empty, is_simple_arg}
use Rattle.clap.specs.declared.builder.action.ArgAction.TheVariants.{Set}
use Rattle.clap.specs.declared.builder.arg.Arg.{Arg}
use Rattle.clap.specs.declared.builder.command.Command.{Command}
use Rattle.clap.specs.declared.builder.command.Command.TheViews.{out-Command}
use Rattle.clap.specs.declared.builder.value_parser.ValueParser.{ValueParser}
use Rattle.clap.specs.declared.builder.value_parser.ValueParser.TheVariants.{Signed}
use Rattle.clap.specs.declared.parser.ArgMatches.{ArgMatches}
use Rattle.clap.proofs.CallerLemmas.{default_present, same_rules_by_id}
use Rattle.clap.proofs.WalkLemmas.{both, one_text-rows}
use Rattle.link_command.specs.Grammar.{HasGenerated, HasThreads, entry_rule, files_rule, gc_rule, generated_rule, icf_rule, map_rule, output_rule, relax_rule, rows_in, rvld_app, strip_rule, threads_rule, undefined_rule, unique_rule, why_apart_rule, why_live_rule}
use Rattle.link_command.proofs.Entries.{AllValued, IsValued, text_given, text_if_any}

abbrev rvld_rules : List Rule
rvld_rules = output_rule ∷ map_rule ∷ entry_rule ∷ threads_rule ∷ gc_rule ∷ icf_rule ∷ relax_rule ∷ strip_rule ∷ undefined_rule ∷ unique_rule ∷ why_live_rule ∷ why_apart_rule ∷ generated_rule ∷ files_rule ∷ []

abbrev workers : ValueParser
workers = Signed (pos 1) (pos 64)

abbrev counts : ValueParser
counts = Signed (pos 1) (pos 65536)

-- no rule but that at this place has this id
abbrev is_alone : ℕ → Text → List Rule → Bool
is_alone place id [] = true
is_alone zero id (r ∷ rs) = list_all (λ s. not (bytes_eq s.id id)) rs
is_alone (suc place) id (r ∷ rs) = not (bytes_eq r.id id) && is_alone place id rs

-- the rules of an option that takes one value of this parser, at its place among all rules
record IsOption (parser : ValueParser) (place : ℕ) (rule : Rule) : Type 0 where
  low : place < length rvld_rules
  at : (d : Rule) → slice_index_or rvld_rules place d ≡ rule
  alone : is_alone place rule.id rvld_rules ≡ true
  action : rule.action ≡ Some Set
  single : rule.range ≡ None
  parser_is : rule.parser ≡ Some parser
  simple : rule.is_simple ≡ true
  named : rule.id ≡ [] → ⊥
  no_help : rule.id ≡ codes "help" → ⊥
  no_version : rule.id ≡ codes "version" → ⊥

none_of : {X : Type 0} (o : Option X) → not (is_some o) ≡ true → o ≡ None
none_of None e = refl
none_of (Some x) e = cc

empty_of : {X : Type 0} (xs : List X) → is_empty xs ≡ true → xs ≡ []
empty_of [] e = refl
empty_of (x ∷ xs) e =
    let none : length (x ∷ xs) ≡ 0 = eqb-true (length (x ∷ xs)) 0 e in
    absurd (omega arith)

off_of : (b : Bool) → not b ≡ true → b ≡ false
off_of false e = refl
off_of true e = cc

-- of the tests of a simple argument, those on defaults under a condition, groups and a delimiter
parts_of : (o d g v rest : Bool) → (o && (d && (g && (not v && rest)))) ≡ true → (d ≡ true) × (g ≡ true) × (not v ≡ true)
parts_of o d g v rest e =
    let a = both o (d && (g && (not v && rest))) e in
    let b = both d (g && (not v && rest)) a.1 in
    let h = both g (not v && rest) b.1 in
    let k = both (not v) rest h.1 in (b.0, h.0, k.0)

simple_parts : (a : Arg) → is_simple_arg a ≡ true → (a.default_vals_ifs.items ≡ []) × (a.groups.items ≡ []) × (a.val_delim ≡ None)
simple_parts a e =
    let parts = parts_of (is_empty a.overrides.items) (is_empty a.default_vals_ifs.items) (is_empty a.groups.items) (is_some a.val_delim)
    (not (is_some a.terminator) && (not a.allow_hyphen_values && (not a.allow_negative_numbers
    && (not a.require_equals && (not a.last && not a.global))))) e in
    (empty_of a.default_vals_ifs.items parts.0, empty_of a.groups.items parts.1, none_of a.val_delim parts.2)

first_two : (g x n rest : Bool) → (g && (not x && (not n && rest))) ≡ true → (g ≡ true) × (n ≡ false)
first_two g x n rest e =
    let a = both g (not x && (not n && rest)) e in
    let b = both (not x) (not n && rest) a.1 in
    let h = both (not n) rest b.1 in (a.0, off_of n h.0)

first_of : (xs : List Arg) → 0 < length xs → Arg
first_of [] some = absurd (omega arith)
first_of (x ∷ xs) some = x

-- texts that begin apart are no equal texts
begins_apart : (a b : ℕ) (s t : Text) → slice_index s 0 ≡ a → slice_index t 0 ≡ b → (a == b) ≡ false → s ≡ t → ⊥
begins_apart a b s t first second apart same =
    let one : a ≡ b = sym first ∙ ap (λ (w : Text). slice_index w 0) same ∙ second in
    let yes : (a == b) ≡ true = eq-eqb a b one in
    let bad : true ≡ false = sym yes ∙ apart in
    let never : ⊥ = cc in
    never

each_passes : (p : Rule → Bool) (rs : List Rule) → list_all p rs ≡ true → (j : ℕ) (d : Rule) → j < length rs → p (slice_index_or rs j d) ≡ true
each_passes p [] all j d low = absurd (omega arith)
each_passes p (r ∷ rs) all zero d low = (both (p r) (list_all p rs) all).0
each_passes p (r ∷ rs) all (suc j) d low = each_passes p rs (both (p r) (list_all p rs) all).1 j d (omega arith)

apart : (b : Bool) → not b ≡ true → b ≡ true → ⊥
apart b off on = let bad : false ≡ true = sym (off_of b off) ∙ on in true≢false (sym bad)

alone_at : (id : Text) (rs : List Rule) (place : ℕ) → is_alone place id rs ≡ true → (j : ℕ) (d : Rule) → j < length rs
    → bytes_eq (slice_index_or rs j d).id id ≡ true → j ≡ place
alone_at id [] place alone j d low same = absurd (omega arith)
alone_at id (r ∷ rs) zero alone zero d low same = refl
alone_at id (r ∷ rs) zero alone (suc j) d low same =
    absurd (apart (bytes_eq (slice_index_or rs j d).id id) (each_passes (λ s. not (bytes_eq s.id id)) rs alone j d (omega arith)) same)
alone_at id (r ∷ rs) (suc place) alone zero d low same =
    absurd (apart (bytes_eq r.id id) (both (not (bytes_eq r.id id)) (is_alone place id rs) alone).0 same)
alone_at id (r ∷ rs) (suc place) alone (suc j) d low same =
    ap suc (alone_at id rs place (both (not (bytes_eq r.id id)) (is_alone place id rs) alone).1 j d (omega arith) same)

each_simple : (j : ℕ) (r : Rule) → j < length rvld_rules → (slice_index_or rvld_rules j r).is_simple ≡ true
each_simple = each_passes (λ r. r.is_simple) rvld_rules refl

threads_is : IsOption workers 3 threads_rule
threads_is = record {
  low = omega arith;
  at = λ d. refl;
  alone = refl;
  action = refl;
  single = refl;
  parser_is = refl;
  simple = refl;
  named = begins_apart 116 0 (codes "threads") [] refl refl refl;
  no_help = begins_apart 116 104 (codes "threads") (codes "help") refl refl refl;
  no_version = begins_apart 116 118 (codes "threads") (codes "version") refl refl refl;
}

generated_is : IsOption counts 12 generated_rule
generated_is = record {
  low = omega arith;
  at = λ d. refl;
  alone = refl;
  action = refl;
  single = refl;
  parser_is = refl;
  simple = refl;
  named = begins_apart 115 0 (codes "self-input") [] refl refl refl;
  no_help = begins_apart 115 104 (codes "self-input") (codes "help") refl refl refl;
  no_version = begins_apart 115 118 (codes "self-input") (codes "version") refl refl refl;
}

-- an argument of such rules
valued_of : (parser : ValueParser) (place : ℕ) (rule : Rule) (a : Arg) → IsOption parser place rule → rule_of a ≡ rule → IsValued parser a
valued_of parser place rule a o is =
    let simple : is_simple_arg a ≡ true = ap (λ (r : Rule). r.is_simple) is ∙ o.simple in
    let one : a.num_vals ≡ None = ap (λ (r : Rule). r.range) is ∙ o.single in
    record {
      action = ap (λ (r : Rule). r.action) is ∙ o.action;
      least = rw one (omega arith);
      whole = (simple_parts a simple).2;
      parser_is = ap (λ (r : Rule). r.parser) is ∙ o.parser_is;
    }

kept_valued : (parser : ValueParser) (a b : Arg) → SameRules a b → IsValued parser a → IsValued parser b
kept_valued parser a b same is = record {
  action = same.action Set is.action;
  least = same.least is.action is.least;
  whole = same.val_delim ∙ is.whole;
  parser_is = same.parser parser is.parser_is;
}

wanted_of : (a : Arg) → rule_of a ≡ threads_rule → WantsDefault a
wanted_of a is =
    let simple : is_simple_arg a ≡ true = ap (λ (r : Rule). r.is_simple) is in
    let texts = ap (λ (r : Rule). length r.defaults) is in
    let count : length (items_of a.default_vals) ≡ 1 = sym (length-map (items_of a.default_vals) (λ s. s.now)) ∙ texts in
    ((simple_parts a simple).0, omega arith)

module _ (old : Command) (m : ArgMatches) (p : IsParsedFrom old m) (rules : map rule_of (args_of old) ≡ rvld_rules)
    (plain : (is_empty (groups_of old) ≡ true) × ((out-Command old).has_globals ≡ false)) where
  count : length (args_of old) ≡ length rvld_rules
  count = sym (length-map (args_of old) rule_of) ∙ ap length rules

  rule_at : (k : ℕ) (d : Arg) → k < length (args_of old) → rule_of (slice_index_or (args_of old) k d) ≡ slice_index_or rvld_rules k (rule_of d)
  rule_at k d low = sym (get_or-map rule_of (args_of old) k d (rule_of d) low) ∙ ap (λ rs. slice_index_or rs k (rule_of d)) rules

  abbrev some_arg : Arg
  some_arg = first_of (args_of old) (omega (arith, count))

  no_groups : groups_of p.built ≡ []
  no_groups =
      let names : NamesNoGroup old = λ k d low.
      let simple : is_simple_arg (slice_index_or (args_of old) k d) ≡ true =
      ap (λ (r : Rule). r.is_simple) (rule_at k d low) ∙ each_simple k (rule_of d) (omega (arith, count)) in
      (simple_parts (slice_index_or (args_of old) k d) simple).1 in
      (p.from.same_groups names).1 ∙ empty_of (groups_of old) plain.0

  module _ (parser : ValueParser) (place : ℕ) (rule : Rule) (o : IsOption parser place rule) where
    abbrev there : Arg
    there = slice_index_or (args_of old) place some_arg

    low : place < length (args_of old)
    low = let under = o.low in omega (arith, count)

    there_is : rule_of there ≡ rule
    there_is = rule_at place some_arg low ∙ o.at (rule_of some_arg)

    there_id : there.id.now ≡ rule.id
    there_id = ap (λ (r : Rule). r.id) there_is

    unique : (j : ℕ) (e : Arg) → j < length (args_of old) → bytes_eq (slice_index_or (args_of old) j e).id.now there.id.now ≡ true → j ≡ place
    unique j e under same =
        let id : (slice_index_or (args_of old) j e).id.now ≡ (slice_index_or rvld_rules j (rule_of e)).id =
        ap (λ (r : Rule). r.id) (rule_at j e under) in
        alone_at rule.id rvld_rules place o.alone j (rule_of e) (omega (arith, count)) (rw (← id, ← there_id) same)

    own : IsAuto there → ⊥
    own (inl help) = o.no_help (sym there_id ∙ help)
    own (inr version) = o.no_version (sym there_id ∙ version)

    valued : AllValued p.built rule.id parser
    valued k a under at same =
        kept_valued parser there a (same_rules_by_id old m p place some_arg low unique own k a under at (rw there_id same)) (valued_of parser place rule there o there_is)

  globals : (out-Command old).has_globals ≡ false
  globals = plain.1

  workers_in : HasThreads (rows_in m)
  workers_in =
      let parsed = p.parsed (p.from.globals ∙ globals) in
      let given = default_present old m p globals 3 some_arg (low workers 3 threads_rule threads_is)
      (wanted_of (there workers 3 threads_rule threads_is) (there_is workers 3 threads_rule threads_is)) in
      let has : HasId (found_of m) (codes "threads") = subst (HasId (found_of m)) (there_id workers 3 threads_rule threads_is) given in
      let got = text_given p.built (found_of m) (codes "threads") workers (valued workers 3 threads_rule threads_is) no_groups threads_is.named parsed.values has in
      (got.0, sym (one_text-rows (found_of m) (codes "threads")) ∙ got.1, got.2.1)

  generated_in : HasGenerated (rows_in m)
  generated_in =
      let parsed = p.parsed (p.from.globals ∙ globals) in
      let rows = sym (one_text-rows (found_of m) (codes "self-input")) in
      elim (text_if_any p.built (found_of m) (codes "self-input") counts (valued counts 12 generated_rule generated_is) no_groups generated_is.named parsed.values) [
        | inl none ↦ inl (rows ∙ none)
        | inr got ↦ inr (got.0, rows ∙ got.1, got.2.1)
      ]

plain_parts : (c : Command) → has_plain_fields (out-Command c) ≡ true → (is_empty (groups_of c) ≡ true) × ((out-Command c).has_globals ≡ false)
plain_parts c e =
    let o = out-Command c in
    first_two (is_empty (groups_of c)) o.allow_external_subcommands o.has_globals (not o.infer_long_args
    && (not o.allow_missing_positional
    && (not o.infer_subcommands && (not o.args_conflicts_with_subcommands
    && (not o.subcommand_precedence_over_arg
    && (not (is_some o.long_flag)
    && (not (is_some o.short_flag) && (is_empty o.long_flag_aliases.items
    && is_empty o.short_flag_aliases.items)))))))) e

-- a parse of the command has a number of workers from 1 to 64
pub workers_given : (old : Command) (m : ArgMatches) → app_of old ≡ rvld_app → IsParsedFrom old m → HasThreads (rows_in m)
unfolding rvld_app
workers_given old m is p = workers_in old m p (ap (λ (a : App). a.top.rules) is) (plain_parts old (ap (λ (a : App). a.top.is_plain) is))

-- and no number of generated objects, or one from 1 to 65536
pub generated_given : (old : Command) (m : ArgMatches) → app_of old ≡ rvld_app → IsParsedFrom old m → HasGenerated (rows_in m)
unfolding rvld_app
generated_given old m is p = generated_in old m p (ap (λ (a : App). a.top.rules) is) (plain_parts old (ap (λ (a : App). a.top.is_plain) is))
