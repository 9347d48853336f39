-- The FDEs that are written, record by record and list by list.
use Rattle.std.proofs.Common.{◌≡◌, ℕ, zero, suc, ◌+◌, ◌-◌, ◌<◌, ◌≤◌, ◌==◌, Bool, true, false, cond, List, [], ◌∷◌, ◌++◌, length, map, take, flat_map, get_or, replicate, Option, Some, None, refl, sym, ap, ◌∙◌, arith, append_assoc, inl, inr}
use Rattle.std.specs.Prelude.{find, is_some, slice_get, unwrap_or}
use Rattle.std.specs.Global.{Vec}
use Rattle.std.specs.List.{filter, position_or_len, range_with_len}
use Rattle.std.proofs.lemmas.Bool.{cases_lt, eq-eqb, ne_eqb}
use Rattle.std.proofs.lemmas.List.{flat_map_more, get_or-map, get_or-replicate, get_or_past, length-map, length-replicate, map-append, take_all, take_more}
use Rattle.std.proofs.lemmas.List.Elements.{filter-append}
use Rattle.std.proofs.lemmas.List.Folds.{find_at}
use Rattle.std.proofs.lemmas.List.Kept.{AllPairs-from_increasing}
use Rattle.std.proofs.lemmas.List.Sums.{position_or_len_is}
use Rattle.std.proofs.lemmas.Option.{slice_get-get_or}
use Rattle.lk_base.proofs.Loops.{range_more}
use Rattle.lk_tables.specs.declared.records.FrameNo.{FrameNo}
use Rattle.lk_tables.specs.declared.records.Record.{Record}
use Rattle.lk_tables.specs.Binding.{Bindings}
use Rattle.lk_tables.specs.Files.{File}
use Rattle.lk_tables.specs.Frames.{AreInOrder, RecordList, frame_no, frames_where, list_view, list_views, no_record, nth, owner_at, owner_in, record_at}
use Rattle.lk_tables.specs.Records.{RecordView}
use Rattle.lk_tables.specs.RecordViews.{record_view, record_views}
use Rattle.lk_tables.specs.Targets.{is_gone}
use Rattle.link_sections.specs.PoolViews.{Merged}
use Rattle.eh_frame.specs.Plan.{cie_key, cie_no, is_owner_in_place, key_of, record_by}
use Rattle.eh_frame.specs.Uses.{Tells, list_in, one_frame, used_cie}

-- an FDE whose CIE is used, and one that is not written
used : (t : Bool) (cie : Option ℕ) (c : ℕ) → Some c ≡ cond t cie None → (t ≡ true) × (cie ≡ Some c)
used true cie c e = (refl, sym e)
used false cie c e = absurd cc

unused : (t : Bool) (cie : Option ℕ) (x : FrameNo) → None ≡ cond t cie None → (t ≡ true → is_some cie ≡ true) → cond t (x ∷ []) [] ≡ []
unused false cie x e has = refl
unused true None x e has = let wrong : false ≡ true = has refl in absurd cc
unused true (Some c) x e has = absurd cc

led_if : (leaders : List (Option ℕ)) (merged : List (Option Merged)) (t : Bool) (o : Option ℕ) → is_owner_in_place leaders merged (cond t o None) ≡ true → t ≡ true
led_if leaders merged true o e = refl
led_if leaders merged false o e = absurd cc

led_has_cie : (files : List File) (b : Bindings) (merged : List (Option Merged)) (leaders : List (Option ℕ)) (f : ℕ) (r : RecordView) → is_owner_in_place leaders merged (owner_in files b f r) ≡ true → is_some r.cie ≡ true
unfolding owner_in
led_has_cie files b merged leaders f r e = led_if leaders merged (is_some r.cie) _ e

module _ (files : List File) (b : Bindings) (merged : List (Option Merged)) (leaders : List (Option ℕ)) where
  pub no_frame : (f : ℕ) (r : RecordView) (x : FrameNo) → None ≡ used_cie files b merged leaders f r → cond (is_owner_in_place leaders merged (owner_in files b f r)) (x ∷ []) [] ≡ []
  no_frame f r x e = unused (is_owner_in_place leaders merged (owner_in files b f r)) r.cie x e (led_has_cie files b merged leaders f r)

  pub used_is : (f : ℕ) (r : RecordView) (c : ℕ) → Some c ≡ used_cie files b merged leaders f r → (is_owner_in_place leaders merged (owner_in files b f r) ≡ true) × (r.cie ≡ Some c)
  used_is f r c e = used (is_owner_in_place leaders merged (owner_in files b f r)) r.cie c e

  pub one_led : (t : Bool) (x : FrameNo) → t ≡ true → cond t (x ∷ []) [] ≡ x ∷ []
  one_led true x e = refl
  one_led false x e = absurd cc

  map_cond : (t : Bool) (n at : ℕ) → map (frame_no n) (cond t (at ∷ []) []) ≡ cond t (frame_no n at ∷ []) []
  map_cond true n at = refl
  map_cond false n at = refl

  -- those of the first records of a list
  abbrev pub first_frames : RecordList → ℕ → List FrameNo
  first_frames l n = map (frame_no l.section) (filter (λ at. is_owner_in_place leaders merged (owner_at files b l at)) (range_with_len 0 n))

  pub frames_more : (l : RecordList) (at : ℕ) (before : List FrameNo) → before ++ first_frames l (at + 1) ≡ (before ++ first_frames l at) ++ one_frame files b merged leaders l at
  frames_more l at before =
      let p : ℕ → Bool = λ k. is_owner_in_place leaders merged (owner_at files b l k) in
      let f = frame_no l.section in
      let done = filter p (range_with_len 0 at) in
      ap (λ ks. before ++ map f (filter p ks)) (range_more at)
      ∙ ap (λ ks. before ++ map f ks) (filter-append p (range_with_len 0 at) (at ∷ []))
      ∙ ap (λ fs. before ++ fs) (map-append f done (cond (p at) (at ∷ []) []))
      ∙ ap (λ fs. before ++ (map f done ++ fs)) (map_cond (p at) l.section at)
      ∙ sym (append_assoc before (map f done) (cond (p at) (f at ∷ []) []))

  pub all_frames_are : (l : RecordList) (n : ℕ) → is_gone b l.section ≡ false → n ≡ length l.records → first_frames l n ≡ frames_where files b (is_owner_in_place leaders merged) l
  unfolding frames_where
  all_frames_are l n stays all =
      ap (first_frames l) all ∙ ap (λ t. cond t [] (first_frames l (length l.records))) (sym stays)

  pub gone_has_none : (l : RecordList) → is_gone b l.section ≡ true → frames_where files b (is_owner_in_place leaders merged) l ≡ []
  unfolding frames_where
  gone_has_none l gone = ap (λ t. cond t [] (first_frames l (length l.records))) gone

-- a list more
pub lists_more : {X Y : Type 0} (f : X → List Y) (xs : List X) (i : ℕ) (d : X) → i < length xs → flat_map f (take i xs) ++ f (get_or xs i d) ≡ flat_map f (take (i + 1) xs)
lists_more f xs i d lt = flat_map_more f [] (take i xs) (get_or xs i d) ∙ ap (flat_map f) (sym (take_more xs i d lt))

pub lists_all : {X Y : Type 0} (f : X → List Y) (xs : List X) (i : ℕ) → length xs ≤ i → flat_map f (take i xs) ≡ flat_map f xs
lists_all f xs i le = ap (flat_map f) (take_all i xs le)

-- a list filled up
pub filled : (n len : ℕ) (old new : List (Option ℕ)) → old ≡ [] → len ≡ length old → new ≡ take n old ++ replicate (n - len) None → new ≡ replicate n None
filled n len old new nil long is =
    let none : length old ≡ 0 = ap length nil in
    let left : n - len ≡ n = omega (arith, none, long) in
    is ∙ ap (λ (l : List (Option ℕ)). l ++ replicate (n - len) None) (take_all n old (omega (arith, none)) ∙ nil) ∙ ap (λ k. replicate k None) left

-- for so many records no number is known
pub none_in : (known : List (Option ℕ)) (n k : ℕ) → known ≡ replicate n None → get_or known k None ≡ None
none_in known n k is =
    elim (cases_lt k n) [
      | inl lt ↦ ap (λ (l : List (Option ℕ)). get_or l k None) is ∙ get_or-replicate n k None None lt
      | inr le ↦ get_or_past known k None (omega (arith, le, ap length is, length-replicate {A = Option ℕ} n None))
    ]

-- what a list of the link says of its records
abbrev section_of : RecordList → ℕ
section_of l = l.section

found_in : (lists : List RecordList) (n : ℕ) (d : RecordList) → AreInOrder lists → n < length lists →
    find (λ (l : RecordList). l.section == (get_or lists n d).section) lists ≡ Some (get_or lists n d)
found_in lists n d order lt =
    let s = (get_or lists n d).section in
    let p : RecordList → Bool = λ l. l.section == s in
    let rises = AllPairs-from_increasing (map section_of lists) order in
    let many = length-map lists section_of in
    let at : (k : ℕ) → k < length lists → get_or (map section_of lists) k 0 ≡ (get_or lists k d).section = λ k less. get_or-map section_of lists k d 0 less in
    let apart : (k : ℕ) → k < n → p (get_or lists k d) ≡ false = λ k less.
    ne_eqb (get_or lists k d).section s (λ e. absurd (omega (arith, e, rises k n 0 less (omega (arith, lt, many)), at k (omega (arith, less, lt)), at n lt))) in
    let first : position_or_len p lists ≡ n = position_or_len_is p lists n d (omega (arith, lt)) apart (λ less. eq-eqb s s refl) in
    find_at p lists ∙ ap (slice_get lists) first ∙ slice_get-get_or lists n d lt

read_some : (rs : List RecordView) (k : ℕ) → unwrap_or (get_or (map (λ (r : RecordView). Some r) rs) k None) no_record ≡ get_or rs k no_record
read_some [] k = refl
read_some (r ∷ rs) zero = refl
read_some (r ∷ rs) (suc k) = read_some rs k

record_is : (lists : List RecordList) (n : ℕ) (d : RecordList) (k : ℕ) → AreInOrder lists → n < length lists →
    record_by lists (frame_no (get_or lists n d).section k) ≡ get_or (get_or lists n d).records k no_record
unfolding record_at
record_is lists n d k order lt =
    ap (λ o. unwrap_or (nth k o) no_record) (found_in lists n d order lt) ∙ read_some (get_or lists n d).records k

pub lists_tell : (files : List File) (b : Bindings) (merged : List (Option Merged)) (lists : List RecordList) (n : ℕ) (d : RecordList) → AreInOrder lists → n < length lists →
    Tells files b merged (cie_key files b merged lists) (cie_no lists) (get_or lists n d)
lists_tell files b merged lists n d order lt =
    let s = (get_or lists n d).section in
    record {
      keys = λ k. ap (key_of files b merged s) (record_is lists n d k order lt);
      cies = λ k. ap (λ (r : RecordView). frame_no s (unwrap_or r.cie 0)) (record_is lists n d k order lt);
    }

-- a record that is lent
pub record_read : (records : List Record) (k : ℕ) (r : Record) → k < length records → r ≡ get_or records k r → record_view r ≡ get_or (record_views records) k no_record
record_read records k r lt is = ap record_view is ∙ sym (get_or-map record_view records k r no_record lt)

-- a list of the link that is lent
pub list_read : (lists : List (ℕ × Vec Record)) (n : ℕ) (list : ℕ × Vec Record) (records : List Record) → n < length lists → list ≡ get_or lists n list →
    records ≡ list.1.items → (d : RecordList) → list_in list.0 records ≡ get_or (list_views lists) n d
list_read lists n list records lt is held d =
    ap (list_in list.0) held ∙ ap list_view is ∙ sym (get_or-map list_view lists n list d lt)
