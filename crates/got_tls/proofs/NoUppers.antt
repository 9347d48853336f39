-- A section without an upper part asks for no entry.
use Rattle.std.proofs.Common.{◌≡◌, ℕ, ◌+◌, ◌<◌, ◌≤◌, ◌==◌, Bool, true, false, cond, List, [], ◌∷◌, ◌++◌, length, flat_map, get_or, take, slice_index, refl, sym, ap, ◌∙◌, arith}
use Rattle.std.specs.Prelude.{Option, Some, None, is_some, if◌then◌else◌, filter}
use Rattle.std.proofs.lemmas.Bool.{eqb-true}
use Rattle.std.proofs.lemmas.Grind.{flat_map-append}
use Rattle.std.proofs.lemmas.List.{length-append, take_more}
use Rattle.lk_base.specs.RelocKinds.{is_upper}
use Rattle.lk_base.specs.declared.abi.TheConstants.{R_RISCV_GOT_HI20, R_RISCV_TLS_GD_HI20, R_RISCV_TLS_GOT_HI20}
use Rattle.lk_base.proofs.NoneGiven.{either_none}
use Rattle.lk_tables.specs.declared.objects.Reloc.{Reloc}
use Rattle.lk_tables.specs.declared.uppers.Uppers.{Uppers}
use Rattle.lk_tables.specs.Files.{File, section_total}
use Rattle.lk_tables.specs.Sites.{place_of, relocs_of}
use Rattle.lk_tables.specs.Uppers.{AreListed, joined, section_uppers, uppers_at}
use Rattle.lk_tables.proofs.ByNumber.{read_by_section}
use Rattle.lk_tables.proofs.Owners.{place_of_number}
use Rattle.link_sections.specs.declared.got.GotUse.{GotUse}
use Rattle.link_sections.specs.declared.got.GotUse.TheVariants.{Address, GeneralDynamic, ThreadOffset}
use Rattle.link_sections.specs.GotEntries.{use_of}
use Rattle.link_sections.specs.Leaders.{leads}
use Rattle.got_tls.specs.GotList.{Wanted, wanted_by, wanted_in, wanted_use}

-- what goes by the table is an upper part
upper_got : is_upper R_RISCV_GOT_HI20 ≡ true
unfolding is_upper
upper_got = refl

upper_tls_got : is_upper R_RISCV_TLS_GOT_HI20 ≡ true
unfolding is_upper
upper_tls_got = refl

upper_tls_gd : is_upper R_RISCV_TLS_GD_HI20 ≡ true
unfolding is_upper
upper_tls_gd = refl

no_use : (n : ℕ) → is_upper n ≡ false → is_some (use_of n) ≡ false
unfolding use_of
no_use n none = by (n == R_RISCV_GOT_HI20) refl (n == R_RISCV_TLS_GOT_HI20) refl (n == R_RISCV_TLS_GD_HI20) refl
  where
    no : (m : ℕ) → (n == m) ≡ true → is_upper m ≡ true → true ≡ false
    no m same upper = sym upper ∙ ap is_upper (sym (eqb-true n m same)) ∙ none

    by : (a : Bool) → (n == R_RISCV_GOT_HI20) ≡ a → (b : Bool) → (n == R_RISCV_TLS_GOT_HI20) ≡ b → (c : Bool) → (n == R_RISCV_TLS_GD_HI20) ≡ c
        → is_some (if a then Some Address else (if b then Some ThreadOffset else (if c then Some GeneralDynamic else None))) ≡ false
    by true one b two c three = no R_RISCV_GOT_HI20 one upper_got
    by false one true two c three = no R_RISCV_TLS_GOT_HI20 two upper_tls_got
    by false one false two true three = no R_RISCV_TLS_GD_HI20 three upper_tls_gd
    by false one false two false three = refl

none_asked : (files : List File) (f : ℕ) (r : Reloc) (o : Option GotUse) → is_some o ≡ false → wanted_use files f r o ≡ []
none_asked files f r None none = refl
none_asked files f r (Some usage) none = let wrong : ⊥ = cc in absurd wrong

none_by : (files : List File) (f : ℕ) (r : Reloc) → is_upper r.kind ≡ false → wanted_by files f r ≡ []
unfolding wanted_by
none_by files f r none = none_asked files f r (use_of r.kind) (no_use r.kind none)

abbrev uppers_among : List Reloc → List Reloc
uppers_among rs = filter (λ (r : Reloc). is_upper r.kind) rs

none_among : (files : List File) (f : ℕ) (rs : List Reloc) → uppers_among rs ≡ [] → flat_map (wanted_by files f) rs ≡ []
none_among files f [] none = refl
none_among files f (r ∷ rs) none = go (is_upper r.kind) refl none (λ rest. none_among files f rs rest)
  where
    go : (b : Bool) → is_upper r.kind ≡ b → cond b (r ∷ uppers_among rs) (uppers_among rs) ≡ [] → (uppers_among rs ≡ [] → flat_map (wanted_by files f) rs ≡ [])
        → wanted_by files f r ++ flat_map (wanted_by files f) rs ≡ []
    go true is none rest = let wrong : ⊥ = cc in absurd wrong
    go false is none rest = ap (λ l. l ++ flat_map (wanted_by files f) rs) (none_by files f r is) ∙ rest none

none_in : (files : List File) (leaders : List (Option ℕ)) (n : ℕ) → uppers_among (relocs_of files n) ≡ [] → wanted_in files leaders n ≡ []
unfolding wanted_in
none_in files leaders n none =
    either_none (leads leaders n) (flat_map (wanted_by files (place_of files n).file) (relocs_of files n)) (none_among files (place_of files n).file (relocs_of files n) none)

-- the list of a section's number
list_of : (files : List File) (n : ℕ) → n < section_total files → get_or (section_uppers files) n [] ≡ uppers_among (relocs_of files n)
list_of files n lt =
    let law = place_of_number files n lt in
    ap (λ k. get_or (section_uppers files) k []) (sym law.number)
    ∙ read_by_section files (uppers_at files) (place_of files n).file (place_of files n).index [] law.file law.index

pub none_wanted : (files : List File) (leaders : List (Option ℕ)) (n : ℕ) → n < section_total files → get_or (section_uppers files) n [] ≡ [] → wanted_in files leaders n ≡ []
none_wanted files leaders n lt none = none_in files leaders n (sym (list_of files n lt) ∙ none)

-- a list that ends where it starts
no_length : {X : Type 0} (xs : List X) → length xs ≡ 0 → xs ≡ []
no_length [] none = refl
no_length (x ∷ xs) none = absurd (omega (arith, none))

start_more : (lists : List (List Reloc)) (n : ℕ) → n < length lists →
    length (joined (take (n + 1) lists)) ≡ length (joined (take n lists)) + length (get_or lists n [])
start_more lists n lt =
    let own = get_or lists n [] in
    let before = take n lists in
    let more : joined (take (n + 1) lists) ≡ joined before ++ joined (own ∷ []) =
    ap joined (take_more lists n [] lt) ∙ flat_map-append (λ (list : List Reloc). list) before (own ∷ []) in
    omega (arith, ap length more, length-append (joined before) (joined (own ∷ [])), length-append own [])

pub none_listed : (lists : List (List Reloc)) (u : Uppers) (n : ℕ) → AreListed lists u → n < length lists →
    slice_index u.firsts.items (n + 1) ≤ slice_index u.firsts.items n → get_or lists n [] ≡ []
none_listed lists u n listed lt le =
    no_length (get_or lists n []) (omega (arith, le, listed.firsts n (omega (arith, lt)), listed.firsts (n + 1) (omega (arith, lt)), start_more lists n lt))
