-- Each section has as many bytes as the one that is written in its place: folded sections have equal bytes.
use Rattle.std.proofs.Common.{◌≡◌, ℕ, suc, ◌<◌, ◌≤◌, ◌⊎◌, ◌==◌, ◌&&◌, not, Bool, true, false, if◌then◌else◌, Option, Some, None, List, [], ◌∷◌, length, map, get_or, set, drop, sym, ap, ◌∙◌, arith, inl, inr, nat_lt}
use Rattle.std.specs.Prelude.{All, is_some, slice_index}
use Rattle.std.proofs.lemmas.Bool.{and_parts, cases_eq, cases_lt, eqb-true, lt-ltb, le-ltb, ltb-true}
use Rattle.std.proofs.lemmas.List.{get_or-map, get_or-set_other, get_or-set_same, get_or_past, length-drop, length-map, length-set, length-take-le}
use Rattle.std.proofs.lemmas.List.FromFn.{get_or-map-range_with_len, length-map-range_with_len}
use Rattle.lk_base.specs.declared.abi.TheConstants.{SHT_NOBITS, SHT_PROGBITS}
use Rattle.lk_tables.specs.declared.commons.BoundCommon.{BoundCommon}
use Rattle.lk_tables.specs.declared.heads.Section.{Section}
use Rattle.lk_tables.specs.declared.tables.Tables.{Tables}
use Rattle.lk_tables.specs.Binding.{Bindings}
use Rattle.lk_tables.specs.Files.{File, file_at, no_section, section_at, section_no, section_total, writes}
use Rattle.lk_tables.specs.InputSections.{InputSection, common_in, input_of, may_stay, room_input, section_input}
use Rattle.lk_tables.specs.Sections.{is_written}
use Rattle.lk_tables.specs.Sites.{place_of}
use Rattle.lk_tables.specs.TablesView.{files_of}
use Rattle.lk_tables.specs.Targets.{is_gone}
use Rattle.lk_tables.proofs.BoundHas.{each_flat, one_if}
use Rattle.lk_tables.proofs.Owners.{place_of_number}
use Rattle.lk_tables.proofs.SoundFiles.{inside_head, sound_file}
use Rattle.lk_tables.proofs.SoundHead.{written_read}
use Rattle.link_sections.specs.FoldItems.{FoldItem}
use Rattle.link_sections.specs.InputSections.{input_at, may_stay_at}
use Rattle.link_sections.specs.Leaders.{fold_each, folded_leaders, is_kept, leader_at, own_leaders, section_at as section_in}
use Rattle.link_sections.specs.MergeSections.{contents}
use Rattle.link_sections.specs.PoolViews.{Merged, is_merged}
use Rattle.icf_part.specs.Folding.{AreFolded, AreLeaders, item_at, no_item}
use Rattle.sec_graph.specs.Foldable.{is_barred, is_foldable, is_foldable_input, item_in, item_of, items}
use Rattle.link_passes.specs.Leaders.{AreAlike}
use Rattle.link_passes.proofs.Keeping.{live_of}

module _ (tables : Tables) (b : Bindings) (kept : List Bool) (stay : (n : ℕ) → is_kept kept n ≡ true → may_stay_at (files_of tables) b n ≡ true) where
  abbrev files : List File
  files = files_of tables

  abbrev S : ℕ → ℕ
  S n = (input_at files b n).size

  -- without folding
  own_at : (merged : List (Option Merged)) (n m : ℕ) → leader_at (own_leaders kept merged) n ≡ Some m → n ≡ m
  unfolding own_leaders
  own_at merged n m is = elim (cases_lt n (length kept)) [
    | inl lt ↦
        by (is_kept kept n && not (is_merged merged n))
        (sym (get_or-map-range_with_len (λ k. if is_kept kept k && not (is_merged merged k) then Some k else None) 0 (length kept) n n None lt (omega arith)) ∙ is)
    | inr past ↦ no_leader (sym (get_or_past (own_leaders kept merged) n None (omega (arith, past, length-map-range_with_len (λ k. if is_kept kept k && not (is_merged merged k) then Some k else None) 0 (length kept)))) ∙ is)
  ]
    where
      no_leader : {A : Type 0} → None ≡ Some m → A
      no_leader e = cc

      by : (t : Bool) → (if t then Some n else None) ≡ Some m → n ≡ m
      by true e = cc
      by false e = cc

  pub own_alike : (merged : List (Option Merged)) → AreAlike files b (own_leaders kept merged)
  own_alike merged n m is = ap S (own_at merged n m is)

  -- one more leader
  set_alike : (leaders : List (Option ℕ)) (n m : ℕ) → AreAlike files b leaders → S n ≡ S m → AreAlike files b (set leaders n (Some m))
  set_alike leaders n m alike same x y is = elim (cases_eq n x) [
    | inl here ↦ elim (cases_lt n (length leaders)) [
      | inl lt ↦
          let own : Some m ≡ Some y = sym (get_or-set_same leaders n (Some m) None lt) ∙ ap (λ k. get_or (set leaders n (Some m)) k None) here ∙ is in
          ap S (sym here) ∙ same ∙ ap S (some_same m y own)
      | inr past ↦ no_leader (sym (get_or_past (set leaders n (Some m)) x None (omega (arith, past, here, length-set leaders n (Some m)))) ∙ is)
    ]
    | inr other ↦ alike x y (sym (get_or-set_other leaders n x (Some m) None (λ e. other (sym e))) ∙ is)
  ]
    where
      some_same : (p q : ℕ) → Some p ≡ Some q → p ≡ q
      some_same p q e = cc

      no_leader : {A : Type 0} → None ≡ Some y → A
      no_leader e = cc

  each_alike : (list : List FoldItem) (ns ps : List ℕ) (leaders : List (Option ℕ)) → AreAlike files b leaders
      → ((k : ℕ) → k < length ns → k < length ps → S (get_or ns k 0) ≡ S (section_in list (get_or ps k 0))) → AreAlike files b (fold_each list ns ps leaders)
  each_alike list [] ps leaders alike same = alike
  each_alike list (n ∷ ns) [] leaders alike same = alike
  each_alike list (n ∷ ns) (p ∷ ps) leaders alike same =
      each_alike list ns ps (set leaders n (Some (section_in list p))) (set_alike leaders n (section_in list p) alike (same 0 (omega arith) (omega arith)))
      (λ k lt less. same (suc k) (omega (arith, lt)) (omega (arith, less)))

  -- a section that may be folded has its bytes in its file
  own_input : (f k : ℕ) → k < length (file_at files f).head.sections → input_of files b f k ≡ section_input (file_at files f) k
  unfolding input_of
  own_input f k lt = ap (λ t. if t then section_input (file_at files f) k else room_input (common_in files b f k)) (lt-ltb k (length (file_at files f).head.sections) lt)

  room_of : (f k : ℕ) → length (file_at files f).head.sections ≤ k → input_of files b f k ≡ room_input (common_in files b f k)
  unfolding input_of
  room_of f k past = ap (λ t. if t then section_input (file_at files f) k else room_input (common_in files b f k)) (le-ltb k (length (file_at files f).head.sections) past)

  no_bits : (c : Option BoundCommon) → (room_input c).sh_type ≡ SHT_PROGBITS → ⊥
  no_bits None e = cc
  no_bits (Some c) e = cc

  stays_written : (f k : ℕ) → k < length (file_at files f).head.sections → may_stay files b f k ≡ true → writes (file_at files f) k ≡ true
  unfolding may_stay
  stays_written f k lt is =
      let own = lt-ltb k (length (file_at files f).head.sections) lt in
      (and_parts (writes (file_at files f) k) (not (is_gone b (section_no files f k))) (sym (ap (λ t. if t then writes (file_at files f) k && not (is_gone b (section_no files f k)) else is_some (common_in files b f k)) own) ∙ is)).0

  sorted : (s : InputSection) → is_foldable_input s ≡ true → s.sh_type ≡ SHT_PROGBITS
  unfolding is_foldable_input
  sorted s is = eqb-true s.sh_type SHT_PROGBITS (and_parts (s.sh_type == SHT_PROGBITS) _ is).0

  size_in : (f k : ℕ) → (file_at files f).live ≡ true → may_stay files b f k ≡ true → (input_of files b f k).sh_type ≡ SHT_PROGBITS → (input_of files b f k).size ≡ length (contents (file_at files f) k)
  unfolding contents
  size_in f k live stays bits = elim (cases_lt k (length (file_at files f).head.sections)) [
    | inl lt ↦
        let file : File = file_at files f in
        let s : Section = section_at file k in
        let own = own_input f k lt in
        let written = and_parts (nat_lt 0 k) (is_written file.bytes s) (stays_written f k lt stays) in
        let inside = inside_head file (sound_file tables f live) in
        let type_is : s.sh_type ≡ SHT_PROGBITS = sym (ap (λ (i : InputSection). i.sh_type) own) ∙ bits in
        let fits = inside.contents k no_section lt (ltb-true 0 k written.0) (written_read file.bytes s written.1) (λ e. other (sym type_is ∙ e)) in
        let rest = length-drop s.offset file.bytes in
        let long = length-take-le s.size (drop s.offset file.bytes) (omega (arith, rest, fits)) in
        omega (arith, ap (λ (i : InputSection). i.size) own, long)
    | inr past ↦ absurd (no_bits (common_in files b f k) (sym (ap (λ (i : InputSection). i.sh_type) (room_of f k past)) ∙ bits))
  ]
    where
      other : SHT_PROGBITS ≡ SHT_NOBITS → ⊥
      other e = cc

  abbrev HasSize : FoldItem → Type 0
  HasSize i = S i.section ≡ length i.bytes

  one_has : (barred : List Bool) (merged : List (Option Merged)) (n : ℕ) → n < section_total files → is_foldable files b kept barred n ≡ true → HasSize (item_of files b merged n)
  unfolding is_foldable item_in
  one_has barred merged n lt is =
      let f = (place_of files n).file in
      let k = (place_of files n).index in
      let input = is_foldable_input (input_of files b f k) in
      let parts = and_parts (is_kept kept n) (not (is_barred barred n) && input) is in
      let law = place_of_number files n lt in
      size_in f k (live_of files f k law.index) (stay n parts.0) (sorted (input_of files b f k) (and_parts (not (is_barred barred n)) input parts.1).1)

  all_have : (barred : List Bool) (merged : List (Option Merged)) → All HasSize (items files b merged kept barred)
  unfolding items
  all_have barred merged = each_flat HasSize _ 0 (section_total files) (λ n lt. one_if HasSize (is_foldable files b kept barred n) (item_of files b merged n) (one_has barred merged n (omega (arith, lt))))

  section_at_is : (list : List FoldItem) (k : ℕ) → k < length list → section_in list k ≡ (item_at list k).section
  section_at_is list k lt = get_or-map (λ (i : FoldItem). i.section) list k no_item 0 lt

  pub folded_alike : (barred : List Bool) (merged : List (Option Merged)) (places : List ℕ) → AreLeaders (items files b merged kept barred) places
      → AreAlike files b (folded_leaders (items files b merged kept barred) places (own_leaders kept merged))
  unfolding folded_leaders
  folded_alike barred merged places are =
      let list = items files b merged kept barred in
      let ns = map (λ (i : FoldItem). i.section) list in
      each_alike list ns places (own_leaders kept merged) (own_alike merged) (λ k lt less.
      let low : k < length list = omega (arith, lt, length-map list (λ (i : FoldItem). i.section)) in
      let is = are.each k low in
      let p = slice_index places k in
      let size : (a : ℕ) → a < length list → S (section_in list a) ≡ length (item_at list a).bytes = λ a in_list. ap S (section_at_is list a in_list) ∙ all_have barred merged a no_item in_list in
      let bytes : (item_at list p).bytes ≡ (item_at list k).bytes = same_bytes list p k is.own in
      size k low ∙ ap length (sym bytes) ∙ sym (size p is.within))
    where
      same_bytes : (list : List FoldItem) (p k : ℕ) → (p ≡ k) ⊎ AreFolded list p k → (item_at list p).bytes ≡ (item_at list k).bytes
      same_bytes list p k is = elim is [
        | inl same ↦ ap (λ n. (item_at list n).bytes) same
        | inr folded ↦ ap (λ (key : _). key.bytes) (folded.congruence.fits p k folded.listed).key
      ]
