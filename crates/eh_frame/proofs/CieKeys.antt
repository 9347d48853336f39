-- The test of CIEs decides whether they say the same.
use Rattle.std.proofs.Common.{◌≡◌, ℕ, ◌==◌, ◌&&◌, ℤ, Option, List, Decides, refl, ap, ◌∙◌, bytes_eq, int_eq}
use Rattle.std.specs.Cmp.Lexicographic.{pointwise}
use Rattle.std.proofs.lemmas.Bool.Decides.{Decides-and, Decides-eqb, Decides-int_eq, Decides-like}
use Rattle.std.proofs.lemmas.Slice.Eq.{bytes_eq-Decides, slice_eq-Decides}
use Rattle.link_sections.specs.declared.targets.Target.{Target}
use Rattle.link_sections.proofs.SameTargets.{target_Decides}
use Rattle.eh_frame.specs.declared.cies.CieReloc.{CieReloc}
use Rattle.eh_frame.specs.Plan.{CieKey, same_cie, same_reloc, same_target}

pub reloc_from : (r q : CieReloc) → r.offset ≡ q.offset → r.kind ≡ q.kind → r.target ≡ q.target → r.addend ≡ q.addend → r ≡ q
reloc_from r q offset kind target addend =
    let make : ℕ → ℕ → Option Target → ℤ → CieReloc = λ o k t a. record { offset = o; kind = k; target = t; addend = a } in
    ap (λ o. make o r.kind r.target r.addend) offset
    ∙ ap (λ k. make q.offset k r.target r.addend) kind
    ∙ ap (λ t. make q.offset q.kind t r.addend) target
    ∙ ap (make q.offset q.kind q.target) addend

reloc_Decides : (r q : CieReloc) → Decides (same_reloc r q) (r ≡ q)
unfolding same_reloc
reloc_Decides r q =
    Decides-like (same_reloc r q)
    (λ p. reloc_from r q p.0 p.1.0 p.1.1.0 p.1.1.1)
    (λ e. (ap (λ (x : CieReloc). x.offset) e, (ap (λ (x : CieReloc). x.kind) e, (ap (λ (x : CieReloc). x.target) e, ap (λ (x : CieReloc). x.addend) e))))
    (Decides-and (r.offset == q.offset) (r.kind == q.kind && (same_target r.target q.target && int_eq r.addend q.addend)) (Decides-eqb r.offset q.offset)
    (Decides-and (r.kind == q.kind) (same_target r.target q.target && int_eq r.addend q.addend) (Decides-eqb r.kind q.kind)
    (Decides-and (same_target r.target q.target) (int_eq r.addend q.addend) (target_Decides r.target q.target) (Decides-int_eq r.addend q.addend))))

pub key_from : (c d : CieKey) → c.bytes ≡ d.bytes → c.relocs ≡ d.relocs → c ≡ d
key_from c d bytes relocs =
    let make : List ℕ → List CieReloc → CieKey = λ b r. record { bytes = b; relocs = r } in
    ap (λ b. make b c.relocs) bytes ∙ ap (make d.bytes) relocs

pub cie_Decides : (c d : CieKey) → Decides (same_cie c d) (c ≡ d)
unfolding same_cie
cie_Decides c d =
    Decides-like (same_cie c d)
    (λ p. key_from c d p.0 p.1)
    (λ e. (ap (λ (k : CieKey). k.bytes) e, ap (λ (k : CieKey). k.relocs) e))
    (Decides-and (bytes_eq c.bytes d.bytes) (pointwise same_reloc c.relocs d.relocs) (bytes_eq-Decides c.bytes d.bytes)
    (slice_eq-Decides reloc_Decides c.relocs d.relocs (pointwise same_reloc c.relocs d.relocs) refl))
