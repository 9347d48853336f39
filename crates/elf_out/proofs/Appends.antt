-- Headers one after the other.
use Rattle.std.proofs.Common.{◌≡◌, ℕ, ◌+◌, List, [], ◌∷◌, ◌++◌, Bool, true, false, flat_map, length, append_assoc, append-nil, ap, sym, ◌∙◌, arith}
use Rattle.std.specs.Prelude.{if◌then◌else◌}
use Rattle.std.proofs.lemmas.Grind.{flat_map-append}
use Rattle.elf_fields.specs.declared.headers.ProgramHeader.{ProgramHeader}
use Rattle.elf_fields.specs.Headers.{program_header}

pub each_appended : (a d : ProgramHeader) (xs ys zs ws : List ProgramHeader)
    → flat_map program_header (a ∷ xs ++ (ys ++ (zs ++ (ws ++ d ∷ []))))
    ≡ program_header a
    ++ (flat_map program_header xs ++ (flat_map program_header ys ++ (flat_map program_header zs ++ (flat_map program_header ws ++ program_header d))))
each_appended a d xs ys zs ws =
    ap (λ l. program_header a ++ l)
    (flat_map-append program_header xs (ys ++ (zs ++ (ws ++ d ∷ [])))
    ∙ ap (λ l. flat_map program_header xs ++ l)
    (flat_map-append program_header ys (zs ++ (ws ++ d ∷ []))
    ∙ ap (λ l. flat_map program_header ys ++ l)
    (flat_map-append program_header zs (ws ++ d ∷ [])
    ∙ ap (λ l. flat_map program_header zs ++ l)
    (flat_map-append program_header ws (d ∷ []) ∙ ap (λ l. flat_map program_header ws ++ l) (append-nil (program_header d))))))

pub six : (old o1 o2 o3 o4 o5 o6 : List ℕ) (a d : ProgramHeader) (xs ys zs ws : List ProgramHeader)
    → o1 ≡ old ++ program_header a → o2 ≡ o1 ++ flat_map program_header xs → o3 ≡ o2 ++ flat_map program_header ys
    → o4 ≡ o3 ++ flat_map program_header zs → o5 ≡ o4 ++ flat_map program_header ws → o6 ≡ o5 ++ program_header d
    → o6 ≡ old ++ flat_map program_header (a ∷ xs ++ (ys ++ (zs ++ (ws ++ d ∷ []))))
six old o1 o2 o3 o4 o5 o6 a d xs ys zs ws e1 e2 e3 e4 e5 e6 =
    let pa : List ℕ = program_header a in
    let px : List ℕ = flat_map program_header xs in
    let py : List ℕ = flat_map program_header ys in
    let pz : List ℕ = flat_map program_header zs in
    let pw : List ℕ = flat_map program_header ws in
    let pd : List ℕ = program_header d in
    e6 ∙ ap (λ l. l ++ pd) (e5 ∙ ap (λ l. l ++ pw) (e4 ∙ ap (λ l. l ++ pz) (e3 ∙ ap (λ l. l ++ py) (e2 ∙ ap (λ l. l ++ px) e1))))
    ∙ append_assoc ((((old ++ pa) ++ px) ++ py) ++ pz) pw pd ∙ append_assoc (((old ++ pa) ++ px) ++ py) pz (pw ++ pd)
    ∙ append_assoc ((old ++ pa) ++ px) py (pz ++ (pw ++ pd)) ∙ append_assoc (old ++ pa) px (py ++ (pz ++ (pw ++ pd)))
    ∙ append_assoc old pa (px ++ (py ++ (pz ++ (pw ++ pd)))) ∙ ap (λ l. old ++ l) (sym (each_appended a d xs ys zs ws))

-- how many there are
one_more : (t : Bool) (x : ProgramHeader) (rest : List ProgramHeader) → length ((if t then x ∷ [] else []) ++ rest) ≡ (if t then 1 else 0) + length rest
one_more true x rest = omega arith
one_more false x rest = omega arith

pub six_count : (a d x y z w : ProgramHeader) (p q r s : Bool)
    → length (a ∷ (if p then x ∷ [] else []) ++ ((if q then y ∷ [] else []) ++ ((if r then z ∷ [] else []) ++ ((if s then w ∷ [] else []) ++ d ∷ []))))
    ≡ 2 + (if p then 1 else 0) + (if q then 1 else 0) + (if r then 1 else 0) + (if s then 1 else 0)
six_count a d x y z w p q r s =
    let last : List ProgramHeader = (if s then w ∷ [] else []) ++ d ∷ [] in
    let third : List ProgramHeader = (if r then z ∷ [] else []) ++ last in
    let second : List ProgramHeader = (if q then y ∷ [] else []) ++ third in
    omega (arith, one_more p x second, one_more q y third, one_more r z last, one_more s w (d ∷ []))
