-- Each symbol that is bound to another takes the address of that, number after number.
use Rattle.std.proofs.Common.{◌≡◌, ◌≢◌, ℕ, zero, suc, ◌+◌, ◌-◌, ◌<◌, ◌≤◌, ◌==◌, true, false, List, length, refl, sym, ap, ◌∙◌, subst, arith, inl, inr, slice_index}
use Rattle.std.specs.Prelude.{if◌then◌else◌, slice_set}
use Rattle.std.proofs.lemmas.Bool.{and_from, and_left, and_parts, and_right, cases_lt, cond_both, cond-false, cond-true, eq-eqb, eqb-false, not-true, not_from_true}
use Rattle.std.proofs.lemmas.Grind.{get_or-set_at}
use Rattle.std.proofs.lemmas.List.{get_or-set_other}
use Rattle.std.proofs.lemmas.List.FromFn.{fill_by_all}
use Rattle.lk_base.specs.declared.abi.TheConstants.{STB_LOCAL}
use Rattle.lk_tables.specs.Binding.{Bindings}
use Rattle.lk_tables.specs.BoundNames.{IsBindingOf}
use Rattle.lk_tables.specs.Files.{AreFew, File, file_at, first_symbol, symbol_at, symbol_no, symbol_total}
use Rattle.lk_tables.specs.Ranks.{file_of, no_rank, symbol_of_rank}
use Rattle.lk_tables.specs.Targets.{bound, bound_by, definition, rank_at}
use Rattle.lk_tables.proofs.ByNumber.{read_by_symbol}
use Rattle.lk_tables.proofs.FirstNumbers.{first_all, first_more}
use Rattle.link_sections.specs.Addresses.{address_of, symbol_address}
use Rattle.link_sections.specs.declared.links.LaidLink.{LaidLink}
use Rattle.link_sections.specs.Links.{link_binding, link_files, link_laid, link_leaders}
use Rattle.symbol_addresses.specs.Prevailing.{HasFile, is_bound_away, is_file_rank, number_named, own_address, own_addresses, taken_address}
use Rattle.symbol_addresses.specs.Sources.{address_in, addresses_of}
use Rattle.symbol_addresses.proofs.Prevails.{IsResolved, IsSeen, is_resolved}

-- what holds of the number of each symbol holds of each number
from_symbols : (files : List File) (P : ℕ → Type 0) → ((f i : ℕ) → f < length files → i < length (file_at files f).head.symbols → P (symbol_no files f i)) →
    (k n : ℕ) → k ≤ length files → n < first_symbol files k → P n
from_symbols files P each zero n le lt = absurd (omega (arith, lt))
from_symbols files P each (suc k) n le lt = elim (cases_lt n (first_symbol files k)) [
  | inl before ↦ from_symbols files P each k n (omega (arith, le)) before
  | inr from ↦
      let one : suc k ≡ k + 1 = omega arith in
      let here : n < first_symbol files (k + 1) = subst (λ (m : ℕ). n < first_symbol files m) one lt in
      let more = first_more files k (omega (arith, le)) in
      let at : symbol_no files k (n - first_symbol files k) ≡ n = omega (arith, from) in
      subst P at (each k (n - first_symbol files k) (omega (arith, le)) (omega (arith, more, here, from)))
]

-- what the addresses of all symbols are at number n, if it is bound to another, and if not
pub record LeadsOn (files : List File) (b : Bindings) (all own : List ℕ) (n : ℕ) : Type 0 where
  pub stays : is_file_rank (rank_at b n) ≡ false → slice_index own n ≡ slice_index all n
  pub file : HasFile files (rank_at b n)
  pub before : is_file_rank (rank_at b n) ≡ true → slice_index own (number_named files (rank_at b n)) ≡ slice_index all n
  pub after : is_file_rank (rank_at b n) ≡ true → slice_index all (number_named files (rank_at b n)) ≡ slice_index all n

-- the first n have theirs
pub record AreTaken (all own now : List ℕ) (n : ℕ) : Type 0 where
  pub done : (m : ℕ) → m < n → slice_index now m ≡ slice_index all m
  pub rest : (m : ℕ) → n ≤ m → slice_index now m ≡ slice_index own m

pub none_taken : (all own now : List ℕ) → now ≡ own → AreTaken all own now 0
none_taken all own now is = record {
  done = λ m lt. absurd (omega (arith, lt));
  rest = λ m le. ap (λ (l : List ℕ). slice_index l m) is;
}

pub taken_is : (files : List File) (b : Bindings) (all own now : List ℕ) (n : ℕ) → AreTaken all own now n → LeadsOn files b all own n →
    taken_address files b now n ≡ slice_index all n
taken_is files b all own now n taken leads =
    let there = number_named files (rank_at b n) in
    cond_both (is_file_rank (rank_at b n)) (slice_index now there) (slice_index now n) (λ (x : ℕ). x ≡ slice_index all n)
    (λ is. elim (cases_lt there n) [
      | inl lt ↦ taken.done there lt ∙ leads.after is
      | inr le ↦ taken.rest there le ∙ leads.before is
    ])
    (λ none. taken.rest n (omega arith) ∙ leads.stays none)

pub taken_more : (all own old new : List ℕ) (n x : ℕ) → AreTaken all own old n → n < length old → new ≡ slice_set old n x → x ≡ slice_index all n →
    AreTaken all own new (n + 1)
taken_more all own old new n x taken below is same = record {
  done = λ m lt. elim (cases_lt m n) [
    | inl before ↦
        let other : m ≢ n = λ e. omega (arith, before, e) in
        ap (λ (l : List ℕ). slice_index l m) is ∙ get_or-set_other old n m x 0 other ∙ taken.done m before
    | inr from ↦
        let at : m ≡ n = omega (arith, lt, from) in
        ap (λ (l : List ℕ). slice_index l m) is ∙ get_or-set_at old n m x 0 at below ∙ same ∙ ap (slice_index all) (sym at)
  ];
  rest = λ m le.
      let other : m ≢ n = λ e. omega (arith, le, e) in
      ap (λ (l : List ℕ). slice_index l m) is ∙ get_or-set_other old n m x 0 other ∙ taken.rest m (omega (arith, le));
}

pub all_taken : (all own now : List ℕ) (n : ℕ) → AreTaken all own now n → length now ≡ n → length all ≡ n → now ≡ all
all_taken all own now n taken long same =
    fill_by_all (slice_index all) now n 0 long taken.done ∙ sym (fill_by_all (slice_index all) all n 0 same (λ k lt. refl))

-- a rank that names a symbol of a file names no other than that
not_away : (rank : ℕ) → is_bound_away rank (file_of rank) (symbol_of_rank rank) ≡ false
not_away rank = and_right _ _ (not_from_true _ (and_from _ _ (eq-eqb (file_of rank) (file_of rank) refl) (eq-eqb (symbol_of_rank rank) (symbol_of_rank rank) refl)))

module _ (link : LaidLink) where
  abbrev files : List File
  files = link_files link

  abbrev b : Bindings
  b = link_binding link

  -- the address of what a rank names
  abbrev address_by : ℕ → ℕ
  address_by rank = address_of files b (link_leaders link) (link_laid link) (bound_by files b rank)

  seen_address : (f i : ℕ) → IsSeen files f i → address_in link f i ≡ address_by (rank_at b (symbol_no files f i))
  unfolding symbol_address bound
  seen_address f i seen =
      let local = (symbol_at (file_at files f) i).binding == STB_LOCAL in
      let by = bound_by files b (rank_at b (symbol_no files f i)) in
      cond-true (file_at files f).live (address_of files b (link_leaders link) (link_laid link) (if local then definition files b f i else by)) 0 seen.live
      ∙ ap (address_of files b (link_leaders link) (link_laid link)) (cond-false local (definition files b f i) by (not-true local seen.visible))

  own_is : (f i : ℕ) → is_bound_away (rank_at b (symbol_no files f i)) f i ≡ false → own_address link f i ≡ address_in link f i
  unfolding own_address
  own_is f i here = cond-false (is_bound_away (rank_at b (symbol_no files f i)) f i) 0 (address_in link f i) here

  -- the symbol that prevails has the same address
  same_address : (f i : ℕ) → IsResolved files b f i →
      address_in link (file_of (rank_at b (symbol_no files f i))) (symbol_of_rank (rank_at b (symbol_no files f i))) ≡ address_in link f i
  same_address f i resolved =
      seen_address (file_of (rank_at b (symbol_no files f i))) (symbol_of_rank (rank_at b (symbol_no files f i))) resolved.to
      ∙ ap address_by resolved.same ∙ sym (seen_address f i resolved.own)

  own_there : (f i : ℕ) → IsResolved files b f i →
      own_address link (file_of (rank_at b (symbol_no files f i))) (symbol_of_rank (rank_at b (symbol_no files f i)))
      ≡ address_in link (file_of (rank_at b (symbol_no files f i))) (symbol_of_rank (rank_at b (symbol_no files f i)))
  own_there f i resolved =
      let rank = rank_at b (symbol_no files f i) in
      own_is (file_of rank) (symbol_of_rank rank) (ap (λ (x : ℕ). is_bound_away x (file_of rank) (symbol_of_rank rank)) resolved.same ∙ not_away rank)

  resolved_at : (f i : ℕ) → IsBindingOf files b → AreFew files → f < length files → i < length (file_at files f).head.symbols →
      is_file_rank (rank_at b (symbol_no files f i)) ≡ true → IsResolved files b f i
  resolved_at f i bindings few lt below is =
      let rank = rank_at b (symbol_no files f i) in
      let both = and_parts _ _ is in
      is_resolved files b f i bindings few lt below (eqb-false rank no_rank (not-true _ both.0)) (not-true _ both.1)

  symbol_leads : (f i : ℕ) → IsBindingOf files b → AreFew files → f < length files → i < length (file_at files f).head.symbols →
      LeadsOn files b (addresses_of link) (own_addresses link) (symbol_no files f i)
  symbol_leads f i bindings few lt below =
      let all_at = read_by_symbol files (address_in link) f i 0 lt below in
      record {
        stays = λ none. read_by_symbol files (own_address link) f i 0 lt below ∙ own_is f i (and_left _ _ none) ∙ sym all_at;
        file = λ is. (resolved_at f i bindings few lt below is).to.file;
        before = λ is.
            let resolved = resolved_at f i bindings few lt below is in
            read_by_symbol files (own_address link) _ _ 0 resolved.to.file resolved.to.symbol ∙ own_there f i resolved ∙ same_address f i resolved ∙ sym all_at;
        after = λ is.
            let resolved = resolved_at f i bindings few lt below is in
            read_by_symbol files (address_in link) _ _ 0 resolved.to.file resolved.to.symbol ∙ same_address f i resolved ∙ sym all_at;
      }

  pub number_leads : (n : ℕ) → IsBindingOf files b → AreFew files → n < symbol_total files → LeadsOn files b (addresses_of link) (own_addresses link) n
  number_leads n bindings few lt =
      from_symbols files (LeadsOn files b (addresses_of link) (own_addresses link)) (λ f i in_files in_file. symbol_leads f i bindings few in_files in_file)
      (length files) n (omega arith) (omega (arith, lt, first_all files (length files) refl))
