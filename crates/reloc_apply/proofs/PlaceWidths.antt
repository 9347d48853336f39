-- How many bytes the place of a relocation has: as many as its ULEB128 number, or else as its kind says.
use Rattle.std.proofs.Common.{◌≡◌, ℕ, Bool, true, false, if◌then◌else◌, List, refl, sym, ap, ◌∙◌}
use Rattle.std.specs.Prelude.{unwrap_or}
use Rattle.std.proofs.lemmas.Bool.{cond-false}
use Rattle.lk_base.specs.RelocKinds.{is_uleb, kind_of}
use Rattle.lk_tables.specs.declared.objects.Reloc.{Reloc}
use Rattle.lk_tables.specs.Relocations.{value_len}
use Rattle.lk_tables.specs.UlebLengths.{uleb_len}
use Rattle.link_sections.specs.Calls.{acting_width, width_in}
use Rattle.link_sections.specs.Cuts.{Cut}

pub number_wide : (contents raw : List ℕ) (cuts : List Cut) (r : Reloc) (len : ℕ) → is_uleb r.kind ≡ true → raw ≡ contents →
    len ≡ unwrap_or (uleb_len raw r.offset) 0 → len ≡ width_in contents cuts r
unfolding width_in value_len
number_wide contents raw cuts r len uleb same is =
    is ∙ ap (λ c. unwrap_or (uleb_len c r.offset) 0) same ∙ sym (by (is_uleb r.kind) uleb)
  where
    by : (c : Bool) → c ≡ true → (if c then (if c then unwrap_or (uleb_len contents r.offset) 0 else (kind_of r.kind).width) else acting_width cuts r)
        ≡ unwrap_or (uleb_len contents r.offset) 0
    by true uleb = refl
    by false uleb = cc

pub plain_wide : (contents : List ℕ) (cuts : List Cut) (r : Reloc) (width : ℕ) → is_uleb r.kind ≡ false → width ≡ acting_width cuts r → width ≡ width_in contents cuts r
unfolding width_in
plain_wide contents cuts r width plain is =
    is ∙ sym (cond-false (is_uleb r.kind) (value_len contents r) (acting_width cuts r) plain)
