-- The uses of all sections, one section after the other, and that each has its entry.
use Rattle.std.proofs.Common.{◌≡◌, ℕ, zero, suc, ◌+◌, ◌<◌, ◌||◌, Bool, true, false, List, [], ◌∷◌, ◌++◌, length, flat_map, get_or, take, refl, sym, ap, ◌∙◌, arith}
use Rattle.std.specs.Prelude.{Option, Some, None, is_some}
use Rattle.std.specs.List.{list_any, range_with_len}
use Rattle.std.proofs.lemmas.Bool.{cond-true}
use Rattle.std.proofs.lemmas.List.{append-nil, take_more}
use Rattle.std.proofs.lemmas.List.FromFn.{get_or-range_with_len, length-range_with_len}
use Rattle.lk_base.proofs.Loops.{flat_step}
use Rattle.lk_base.proofs.Membership.{any_here, any_later}
use Rattle.std.proofs.lemmas.Grind.{flat_map-append}
use Rattle.lk_tables.specs.declared.objects.Reloc.{Reloc}
use Rattle.lk_tables.specs.Files.{File, section_total}
use Rattle.lk_tables.specs.Sites.{place_of, relocs_of}
use Rattle.link_sections.specs.declared.got.GotEntry.{GotEntry}
use Rattle.link_sections.specs.declared.got.GotUse.{GotUse}
use Rattle.link_sections.specs.GotEntries.{AreUnlike, entry_of, key_of, use_of}
use Rattle.link_sections.specs.Leaders.{leads}
use Rattle.link_sections.proofs.GotSteps.{own_entry}
use Rattle.link_sections.specs.GotUses.{HasAllUses}
use Rattle.got_tls.specs.GotList.{Wanted, all_added, got_of, wanted, wanted_by, wanted_in, wanted_use}
use Rattle.got_tls.proofs.Adding.{added_append, all_are_added, asks}
use Rattle.got_tls.proofs.UseKinds.{uses_are}

-- some element of a list of lists
any_flat : {X Y : Type 0} (p : Y → Bool) (f : X → List Y) (xs : List X) (i : ℕ) (d : X) → i < length xs → list_any p (f (get_or xs i d)) ≡ true →
    list_any p (flat_map f xs) ≡ true
any_flat p f [] i d lt some = absurd (omega arith)
any_flat p f (x ∷ xs) zero d lt some = any_here p (f x) (flat_map f xs) some
any_flat p f (x ∷ xs) (suc i) d lt some = any_later p (f x) (flat_map f xs) (any_flat p f xs i d (omega arith) some)

-- what a relocation asks for is among the uses
asked_by : (files : List File) (f : ℕ) (r : Reloc) (usage : GotUse) (o : Option GotUse) → o ≡ Some usage →
    list_any (asks (key_of files f r.symbol) usage) (wanted_use files f r o) ≡ true
asked_by files f r usage None is = let wrong : ⊥ = cc in absurd wrong
asked_by files f r usage (Some own) is =
    let same : own ≡ usage = cc in
    let key = key_of files f r.symbol in
    ap (λ b. b || false) (ap (λ u. asks key u (record { key = key; usage = own; file = f; symbol = r.symbol })) (sym same)
    ∙ own_entry (record { key = key; usage = own; file = f; symbol = r.symbol; word = 0 }))

asked_in : (files : List File) (leaders : List (Option ℕ)) (n k : ℕ) (d : Reloc) (usage : GotUse) → n < section_total files → leads leaders n ≡ true →
    k < length (relocs_of files n) → use_of (get_or (relocs_of files n) k d).kind ≡ Some usage →
    list_any (asks (key_of files (place_of files n).file (get_or (relocs_of files n) k d).symbol) usage) (wanted files leaders) ≡ true
unfolding wanted wanted_in wanted_by
asked_in files leaders n k d usage lt own less is =
    let f = (place_of files n).file in
    let r = get_or (relocs_of files n) k d in
    let total = section_total files in
    let p : Wanted → Bool = asks (key_of files f r.symbol) usage in
    let mine = flat_map (wanted_by files f) (relocs_of files n) in
    let here : list_any p (wanted_in files leaders n) ≡ true =
    ap (list_any p) (cond-true (leads leaders n) mine [] own)
    ∙ any_flat p (wanted_by files f) (relocs_of files n) k d less (asked_by files f r usage (use_of r.kind) is) in
    let at : get_or (range_with_len 0 total) n n ≡ n = get_or-range_with_len 0 total n n lt ∙ omega arith in
    any_flat p (wanted_in files leaders) (range_with_len 0 total) n n (omega (arith, length-range_with_len 0 total, lt))
    (ap (λ m. list_any p (wanted_in files leaders m)) at ∙ here)

-- the table of all uses
pub table_is : (files : List File) (leaders : List (Option ℕ)) (es : List GotEntry) → es ≡ all_added [] (wanted files leaders) → es ≡ got_of files leaders
unfolding got_of
table_is files leaders es is = is ∙ (all_are_added (wanted files leaders)).entries_are

pub has_all : (files : List File) (leaders : List (Option ℕ)) (es : List GotEntry) → es ≡ all_added [] (wanted files leaders) → AreUnlike es → HasAllUses files leaders es
has_all files leaders es is unlike = record {
  unlike = unlike;
  asked = uses_are;
  each = λ n lt own k d less usage asked.
      let key = key_of files (place_of files n).file (get_or (relocs_of files n) k d).symbol in
      ap (λ l. is_some (entry_of l key usage)) is
      ∙ (all_are_added (wanted files leaders)).found key usage ∙ asked_in files leaders n k d usage lt own less asked;
}

-- one section more, and one relocation more
pub sections_step : (f : ℕ → List Wanted) (n : ℕ) (first old new : List GotEntry) → old ≡ all_added first (flat_map f (range_with_len 0 n)) → new ≡ all_added old (f n) →
    new ≡ all_added first (flat_map f (range_with_len 0 (n + 1)))
sections_step f n first old new held is =
    is ∙ ap (λ l. all_added l (f n)) held ∙ sym (added_append first (flat_map f (range_with_len 0 n)) (f n))
    ∙ ap (all_added first) (flat_step f n (flat_map f (range_with_len 0 n)) (flat_map f (range_with_len 0 n) ++ f n) refl refl)

pub relocs_step : (f : Reloc → List Wanted) (rs : List Reloc) (k : ℕ) (d : Reloc) (first old new : List GotEntry) → k < length rs →
    old ≡ all_added first (flat_map f (take k rs)) → new ≡ all_added old (f (get_or rs k d)) → new ≡ all_added first (flat_map f (take (k + 1) rs))
relocs_step f rs k d first old new lt held is =
    is ∙ ap (λ l. all_added l (f (get_or rs k d))) held ∙ sym (added_append first (flat_map f (take k rs)) (f (get_or rs k d)))
    ∙ ap (all_added first) (ap (λ l. flat_map f (take k rs) ++ l) (sym (append-nil (f (get_or rs k d))))
    ∙ sym (flat_map-append f (take k rs) (get_or rs k d ∷ [])) ∙ ap (flat_map f) (sym (take_more rs k d lt)))

pub all_sections : (files : List File) (leaders : List (Option ℕ)) (es : List GotEntry) (n : ℕ) → n ≡ section_total files →
    es ≡ all_added [] (flat_map (wanted_in files leaders) (range_with_len 0 n)) → es ≡ all_added [] (wanted files leaders)
unfolding wanted
all_sections files leaders es n all is = is ∙ ap (λ m. all_added [] (flat_map (wanted_in files leaders) (range_with_len 0 m))) all
