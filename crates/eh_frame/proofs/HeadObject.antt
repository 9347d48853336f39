-- The head and the object of a file's bytes, by number.
use Rattle.std.proofs.Common.{◌≡◌, ℕ, ◌<◌, ◌≤◌, List, [], length, map, get_or, ap, ◌∙◌, arith}
use Rattle.std.specs.Prelude.{Ok}
use Rattle.std.specs.Global.{Vec}
use Rattle.std.specs.List.Sorted.{IsNonDecreasingBy}
use Rattle.std.proofs.lemmas.List.{get_or-map}
use Rattle.std.proofs.lemmas.List.FromFn.{get_or-map-range_with_len}
use Rattle.lk_base.specs.declared.abi.TheConstants.{FILE_MAX}
use Rattle.lk_tables.specs.declared.heads.Section.{Section}
use Rattle.lk_tables.specs.declared.objects.Reloc.{Reloc}
use Rattle.lk_tables.specs.FileHeader.{section_count}
use Rattle.lk_tables.specs.Heads.{HeadView, head_of}
use Rattle.lk_tables.specs.Objects.{ObjectView, object_of, parts_of, relocs_for}
use Rattle.lk_tables.specs.Sections.{section_of}
use Rattle.lk_tables.proofs.BodyFacts.{sections_are}
use Rattle.lk_tables.proofs.HeadFacts.{length_sections, section_at}
use Rattle.lk_tables.proofs.SoundBody.{object_inside, object_is}
use Rattle.lk_tables.proofs.SoundHead.{head_is}

pub count_is : (b : List ℕ) (head : HeadView) → head_of b ≡ Ok head → length head.sections ≡ section_count b
count_is b head e = ap length (sections_are b head (head_is b head e)) ∙ length_sections b

pub section_is : (b : List ℕ) (head : HeadView) (k : ℕ) (d : Section) → head_of b ≡ Ok head → k < length head.sections → get_or head.sections k d ≡ section_of b k
section_is b head k d e lt = section_at b head.sections k d (sections_are b head (head_is b head e)) lt

relocs_in_parts : (b : List ℕ) (k : ℕ) → k < section_count b → get_or (ObjectView.relocs (parts_of b)) k [] ≡ relocs_for b k
unfolding parts_of
relocs_in_parts b k lt = get_or-map-range_with_len (relocs_for b) 0 (section_count b) k k [] lt (omega arith)

pub relocs_are : (b : List ℕ) (object : ObjectView) (k : ℕ) → object_of b ≡ Ok object → k < section_count b → get_or object.relocs k [] ≡ relocs_for b k
relocs_are b object k e lt = ap (λ (o : ObjectView). get_or o.relocs k []) (object_is b object e).parts ∙ relocs_in_parts b k lt

pub lists_are : (b : List ℕ) (head : HeadView) (object : ObjectView) → head_of b ≡ Ok head → object_of b ≡ Ok object → length b ≤ FILE_MAX →
    length object.relocs ≡ length head.sections
lists_are b head object h o short = (object_inside b head object h o short).counted

pub in_order : (b : List ℕ) (head : HeadView) (object : ObjectView) (k : ℕ) → head_of b ≡ Ok head → object_of b ≡ Ok object → length b ≤ FILE_MAX →
    k < length object.relocs → IsNonDecreasingBy (λ (r : Reloc). r.offset) (get_or object.relocs k [])
in_order b head object k h o short lt = (object_inside b head object h o short).ordered k [] lt

-- a list of those that are held, by number
pub list_in : (lists : List (Vec Reloc)) (k : ℕ) (d : Vec Reloc) → k < length lists → get_or (map (λ (v : Vec Reloc). v.items) lists) k [] ≡ (get_or lists k d).items
list_in lists k d lt = get_or-map (λ (v : Vec Reloc). v.items) lists k d [] lt
