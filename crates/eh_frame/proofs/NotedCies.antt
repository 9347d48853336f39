-- One CIE more among those that are held, and one FDE more among those that are found.
use Rattle.std.proofs.Common.{◌≡◌, ℕ, ◌+◌, ◌<◌, Bool, true, false, ◌||◌, not, cond, List, [], ◌∷◌, ◌++◌, length, map, get_or, set, Option, Some, None, refl, sym, ap, ◌∙◌, subst, arith, inl, inr, append-nil}
use Rattle.std.specs.Global.{Vec}
use Rattle.std.specs.List.{All, list_any, position_or_len}
use Rattle.std.specs.Str.{bytes_eq}
use Rattle.std.proofs.lemmas.Bool.{cases_eq}
use Rattle.std.proofs.lemmas.List.{get_or-map, get_or-set_same, get_or-set_other, length-map, map_push}
use Rattle.std.proofs.lemmas.List.Elements.{All-push, All-tail}
use Rattle.std.proofs.lemmas.Option.{none-some, same_Some}
use Rattle.lk_base.proofs.StableOrder.{cons_head, cons_tail}
use Rattle.lk_tables.specs.declared.records.FrameNo.{FrameNo}
use Rattle.lk_tables.specs.Frames.{frame_no}
use Rattle.eh_frame.specs.declared.planning.Firsts.{Firsts}
use Rattle.eh_frame.specs.declared.planning.Uses.{Uses}
use Rattle.eh_frame.specs.Plan.{CieKey, IsFit, IsTextOf, cie_text, first_cies, is_alike, use_of, with_cie}
use Rattle.eh_frame.specs.Uses.{AreHeld, AreKnown, AreNone, AreUses, AreUsesIn, IsNumbered, IsUse, cies_for, has_text, texts_of}
use Rattle.eh_frame.proofs.CieTexts.{same_text}
use Rattle.eh_frame.proofs.FirstCies.{first_more, has_first, use_own, use_stays, uses_stay, with_known}

joined : (t : Bool) (xs : List FrameNo) (x : FrameNo) → xs ++ cond (not t) (x ∷ []) [] ≡ cond t xs (xs ++ (x ∷ []))
joined true xs x = append-nil xs
joined false xs x = refl

module _ (key : FrameNo → CieKey) where
  abbrev text_at : FrameNo → List ℕ
  text_at cie = cie_text (key cie)

  abbrev fits_at : FrameNo → Type 0
  fits_at cie = IsFit (key cie)

  -- a text among those that are held is its CIE among these
  alike : (cie : FrameNo) (text : List ℕ) → IsTextOf (key cie) text → (held : List (Vec ℕ)) (cies : List FrameNo) → texts_of held ≡ map text_at cies → All fits_at cies →
      (list_any (has_text text) held ≡ list_any (is_alike key cie) cies) × (position_or_len (has_text text) held ≡ position_or_len (is_alike key cie) cies)
  alike cie text is [] [] are fit = (refl, refl)
  alike cie text is [] (c ∷ cies) are fit = absurd cc
  alike cie text is (v ∷ held) [] are fit = absurd cc
  alike cie text is (v ∷ held) (c ∷ cies) are fit =
      let one : has_text text v ≡ is_alike key cie c =
      ap (λ t. bytes_eq t v.items) is.text_is ∙ ap (bytes_eq (text_at cie)) (cons_head v.items (text_at c) (texts_of held) (map text_at cies) are)
      ∙ same_text (key cie) (key c) is.fit (fit 0 c (omega arith)) in
      let rest = alike cie text is held cies (cons_tail v.items (text_at c) (texts_of held) (map text_at cies) are) (All-tail fits_at c cies fit) in (
        ap (λ b. b || list_any (has_text text) held) one ∙ ap (λ b. is_alike key cie c || b) rest.0,
        ap (λ b. cond (not b) (1 + position_or_len (has_text text) held) 0) one ∙ ap (λ n. cond (not (is_alike key cie c)) (1 + n) 0) rest.1,
      )

  texts_with : (t : Bool) (held : List (Vec ℕ)) (v : Vec ℕ) (cies : List FrameNo) (cie : FrameNo) → texts_of held ≡ map text_at cies → v.items ≡ text_at cie →
      texts_of (cond t held (held ++ (v ∷ []))) ≡ map text_at (cond t cies (cies ++ (cie ∷ [])))
  texts_with true held v cies cie are is = are
  texts_with false held v cies cie are is =
      map_push (λ (text : Vec ℕ). text.items) held v ∙ ap (λ l. l ++ (v.items ∷ [])) are ∙ ap (λ x. map text_at cies ++ (x ∷ [])) is ∙ sym (map_push text_at cies cie)

  fits_with : (t : Bool) (cies : List FrameNo) (cie : FrameNo) → All fits_at cies → fits_at cie → All fits_at (cond t cies (cies ++ (cie ∷ [])))
  fits_with true cies cie all one = all
  fits_with false cies cie all one = All-push fits_at cies cie all one

  -- what noting a CIE leaves
  pub held_more : (cies : List FrameNo) (cie : FrameNo) (v : Vec ℕ) (old new : Firsts) → AreHeld key cies old → IsTextOf (key cie) v.items →
      new.cies.items ≡ old.cies.items ++ cond (not (list_any (has_text v.items) old.texts.keys)) (cie ∷ []) [] →
      new.texts.keys ≡ cond (list_any (has_text v.items) old.texts.keys) old.texts.keys (old.texts.keys ++ (v ∷ [])) → AreHeld key (with_cie key cies cie) new
  held_more cies cie v old new held is more texts =
      let p = is_alike key cie in
      let both = alike cie v.items is old.texts.keys cies held.texts_are held.fit in
      record {
        cies_are = more ∙ ap (λ l. l ++ cond (not (list_any (has_text v.items) old.texts.keys)) (cie ∷ []) []) held.cies_are
            ∙ ap (λ t. cies ++ cond (not t) (cie ∷ []) []) both.0 ∙ joined (list_any p cies) cies cie;
        texts_are = ap texts_of texts ∙ ap (λ t. texts_of (cond t old.texts.keys (old.texts.keys ++ (v ∷ [])))) both.0
            ∙ texts_with (list_any p cies) old.texts.keys v cies cie held.texts_are is.text_is;
        fit = fits_with (list_any p cies) cies cie held.fit is.fit;
      }

  pub number_is : (cies : List FrameNo) (cie : FrameNo) (text : List ℕ) (old : Firsts) (n : ℕ) → AreHeld key cies old → IsTextOf (key cie) text →
      n ≡ position_or_len (has_text text) old.texts.keys → IsUse key (with_cie key cies cie) cie n
  number_is cies cie text old n held is at =
      let both = alike cie text is old.texts.keys cies held.texts_are held.fit in
      let U : ℕ → Type 0 = IsUse key (with_cie key cies cie) cie in
      subst U (sym (at ∙ both.1)) (use_own key cies cie)

  -- the number of a CIE is known from then on
  pub known_more : (cies : List FrameNo) (section cie n : ℕ) (known : List (Option ℕ)) → cie < length known → AreKnown key cies section known →
      IsUse key (with_cie key cies (frame_no section cie)) (frame_no section cie) n → AreKnown key (with_cie key cies (frame_no section cie)) section (set known cie (Some n))
  known_more cies section cie n known lt are u = λ k m e.
      let next = with_cie key cies (frame_no section cie) in
      elim (cases_eq k cie) [
        | inl same ↦
            let at : get_or (set known cie (Some n)) cie None ≡ Some n = get_or-set_same known cie (Some n) None lt in
            let number : n ≡ m = same_Some n m (sym at ∙ ap (λ j. get_or (set known cie (Some n)) j None) (sym same) ∙ e) in
            let N : ℕ → Type 0 = IsUse key next (frame_no section cie) in
            let K : ℕ → Type 0 = λ j. IsUse key next (frame_no section j) m in
            subst K (sym same) (subst N number u)
        | inr other ↦
            let at : get_or (set known cie (Some n)) k None ≡ get_or known k None = get_or-set_other known cie k (Some n) None other in
            use_stays key cies (frame_no section cie) (frame_no section k) m (are k m (sym at ∙ e))
      ]

  -- a number that is known
  pub is_known : (cies : List FrameNo) (section cie n : ℕ) (known : List (Option ℕ)) (firsts : Firsts) → AreHeld key cies firsts → AreKnown key cies section known →
      get_or known cie None ≡ Some n → IsNumbered key cies section cie n known firsts
  is_known cies section cie n known firsts held are at =
      let c = frame_no section cie in
      let u = are cie n at in
      let same : cies ≡ with_cie key cies c = sym (with_known key cies c n u) in
      let U : List FrameNo → Type 0 = λ l. IsUse key l c n in
      let H : List FrameNo → Type 0 = λ l. AreHeld key l firsts in
      let K : List FrameNo → Type 0 = λ l. AreKnown key l section known in
      record { use_is = subst U same u; held = subst H same held; are_known = subst K same are }

  module _ (cie_of : FrameNo → FrameNo) where
    pub cies_more : (fdes : List FrameNo) (fde cie : FrameNo) → cie_of fde ≡ cie → cies_for key cie_of (fdes ++ (fde ∷ [])) ≡ with_cie key (cies_for key cie_of fdes) cie
    cies_more fdes fde cie is =
        ap (first_cies key []) (map_push cie_of fdes fde) ∙ first_more key [] (map cie_of fdes) (cie_of fde) ∙ ap (with_cie key (cies_for key cie_of fdes)) is

    pub each_known : (fdes : List FrameNo) (k : ℕ) → k < length fdes → list_any (is_alike key (cie_of (get_or fdes k (frame_no 0 0)))) (cies_for key cie_of fdes) ≡ true
    each_known fdes k lt =
        let at : get_or (map cie_of fdes) k (frame_no 0 0) ≡ cie_of (get_or fdes k (frame_no 0 0)) = get_or-map cie_of fdes k (frame_no 0 0) (frame_no 0 0) lt in
        subst (λ (c : FrameNo). list_any (is_alike key c) (cies_for key cie_of fdes) ≡ true) at
        (has_first key [] (map cie_of fdes) k (omega (arith, lt, length-map fdes cie_of)))

    -- an FDE more
    pub fde_more : (fdes : List FrameNo) (section at cie n : ℕ) (known : List (Option ℕ)) (old new : Uses) → AreUses key cie_of fdes old →
        IsNumbered key (cies_for key cie_of fdes) section cie n known new.firsts → cie_of (frame_no section at) ≡ frame_no section cie →
        new.fdes.items ≡ old.fdes.items ++ (frame_no section at ∷ []) → new.uses.items ≡ old.uses.items ++ (n ∷ []) →
        AreUsesIn key cie_of (fdes ++ (frame_no section at ∷ [])) section known new
    fde_more fdes section at cie n known old new are numbered is pushed used =
        let fde = frame_no section at in
        let c = frame_no section cie in
        let cies = cies_for key cie_of fdes in
        let next = with_cie key cies c in
        let g : FrameNo → ℕ = λ f. use_of key next (cie_of f) in
        let own : n ≡ g fde = sym (ap (use_of key next) is ∙ numbered.use_is.is) in
        let U : List FrameNo → Type 0 = λ l. new.uses.items ≡ map (λ (f : FrameNo). use_of key l (cie_of f)) (fdes ++ (fde ∷ [])) in
        let H : List FrameNo → Type 0 = λ l. AreHeld key l new.firsts in
        let K : List FrameNo → Type 0 = λ l. AreKnown key l section known in
        let uses : new.uses.items ≡ map g (fdes ++ (fde ∷ [])) =
        used ∙ ap (λ l. l ++ (n ∷ [])) are.uses_are ∙ ap (λ l. l ++ (n ∷ [])) (uses_stay key cie_of fdes cies c (each_known fdes))
        ∙ ap (λ m. map g fdes ++ (m ∷ [])) own ∙ sym (map_push g fdes fde) in
        let more : next ≡ cies_for key cie_of (fdes ++ (fde ∷ [])) = sym (cies_more fdes fde c is) in
        record {
          uses = record {
            fdes_are = pushed ∙ ap (λ l. l ++ (fde ∷ [])) are.fdes_are;
            uses_are = subst U more uses;
            held = subst H more numbered.held;
          };
          are_known = subst K more numbered.are_known;
        }

    pub fde_added : (fdes : List FrameNo) (section at cie n : ℕ) (known : List (Option ℕ)) (more : List FrameNo) (old new : Uses) → AreUses key cie_of fdes old →
        IsNumbered key (cies_for key cie_of fdes) section cie n known new.firsts → cie_of (frame_no section at) ≡ frame_no section cie →
        new.fdes.items ≡ old.fdes.items ++ (frame_no section at ∷ []) → new.uses.items ≡ old.uses.items ++ (n ∷ []) → more ≡ frame_no section at ∷ [] →
        AreUsesIn key cie_of (fdes ++ more) section known new
    fde_added fdes section at cie n known more old new are numbered is pushed used one =
        let P : List FrameNo → Type 0 = λ l. AreUsesIn key cie_of (fdes ++ l) section known new in
        subst P (sym one) (fde_more fdes section at cie n known old new are numbered is pushed used)

    -- none more
    pub none_more : (fdes more : List FrameNo) (section : ℕ) (known : List (Option ℕ)) (found : Uses) → more ≡ [] → AreUsesIn key cie_of fdes section known found →
        AreUsesIn key cie_of (fdes ++ more) section known found
    none_more fdes more section known found nil are =
        let P : List FrameNo → Type 0 = λ l. AreUsesIn key cie_of l section known found in
        subst P (sym (ap (λ l. fdes ++ l) nil ∙ append-nil fdes)) are

    -- nothing yet
    pub none_found : (found : Uses) → AreNone found → AreUses key cie_of [] found
    none_found found nil = record {
      fdes_are = nil.fdes;
      uses_are = nil.uses;
      held = record { cies_are = nil.cies; texts_are = ap texts_of nil.texts; fit = λ k d lt. absurd (omega (arith, lt)) };
    }

    pub none_known : (cies : List FrameNo) (section : ℕ) (known : List (Option ℕ)) → ((k : ℕ) → get_or known k None ≡ None) → AreKnown key cies section known
    none_known cies section known none = λ k n e. absurd (none-some n (sym (none k) ∙ e))
