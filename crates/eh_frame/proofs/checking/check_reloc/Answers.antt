use Rattle.std.proofs.Common.{◌≡◌, [], Option, Some, None, refl, ap, ◌∙◌, ℤ}
use Rattle.lk_base.specs.Reaches.{Reach, any}
use Rattle.lk_tables.specs.declared.objects.Reloc.{Reloc}
use Rattle.lk_tables.specs.declared.section_places.SectionPlace.{SectionPlace}
use Rattle.lk_tables.specs.Misfits.{value_defects}
use Rattle.eh_frame.specs.Bytes.{reloc_defects}
use Rattle.eh_frame.proofs.checking.check_reloc.Goals as goal

none_of_any : (place : SectionPlace) (r : Reloc) (v : Option ℤ) → value_defects place r any v ≡ []
none_of_any place r None = refl
none_of_any place r (Some v) = refl

none_of : (place : SectionPlace) (r : Reloc) (reach : Reach) (v : Option ℤ) → reach ≡ any → value_defects place r reach v ≡ []
none_of place r reach v is = ap (λ x. value_defects place r x v) is ∙ none_of_any place r v

pub returns-then-takes_all : goal.returns-then-takes_all
unfolding reloc_defects
returns-then-takes_all c = none_of c.args.place c.args.reloc.now _ _ (c.takes_all.ensures c.if-takes_all.true)

pub returns : goal.returns
unfolding reloc_defects
returns c = c.check_value.ensures
