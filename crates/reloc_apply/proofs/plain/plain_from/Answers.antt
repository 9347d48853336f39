use Rattle.std.proofs.Common.{◌≡◌, ◌∙◌, List, length, get_or, ap, arith}
use Rattle.lk_tables.specs.declared.heads.Symbol.{Symbol}
use Rattle.lk_tables.specs.Files.{File, file_at, no_symbol}
use Rattle.link_sections.specs.Views.{files_in}
use Rattle.reloc_apply.proofs.PlainSymbols.{plain_past}
use Rattle.reloc_apply.proofs.SitePlaces.{live_place}
use Rattle.reloc_apply.proofs.SoundLists.{all_sound}
use Rattle.reloc_apply.proofs.plain.plain_from.Goals as goal

pub returns : goal.returns
returns c =
    let files = files_in c.args.view.now in
    let file : File = file_at files c.args.site.place.file in
    let live = live_place files c.args.site.section c.args.site.place c.requires.law in
    let same : c.symbols-symbols.result.now ≡ file.head.symbols = c.symbols-symbols.ensures ∙ ap (λ (f : File). f.head.symbols) c.file.ensures in
    let look = c.in-Some.ensures.lookup.3 in
    let n = c.partition_point-first.result in
    plain_past file (all_sound c.args.view.now.tables.now c.args.site.place.file live) n (omega (arith, look.0, ap length same))
    (λ local. c.if-symbol-eq-STB_LOCAL.false
    (ap (λ (s : Symbol). s.binding) (look.1 no_symbol ∙ ap (λ (l : List Symbol). get_or l n no_symbol) same) ∙ local))
