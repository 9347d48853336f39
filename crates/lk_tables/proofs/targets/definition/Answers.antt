use Rattle.std.proofs.Common.{◌≡◌, ◌<◌, ◌==◌, List, length, sym, ap, ◌∙◌, find, rules}
use Rattle.lk_tables.specs.declared.bounds.Bound.{Bound}
use Rattle.lk_tables.specs.declared.commons.BoundCommon.{BoundCommon}
use Rattle.lk_tables.specs.declared.heads.Place.{Place}
use Rattle.lk_tables.specs.declared.heads.Symbol.{Symbol}
use Rattle.lk_tables.specs.BindingView.{binding_view}
use Rattle.lk_tables.specs.FileView.{file_view}
use Rattle.lk_tables.specs.Files.{File, file_at, symbol_at}
use Rattle.lk_tables.specs.TablesView.{files_of}
use Rattle.lk_tables.specs.Targets.{defined_by, definition, room_of}
use Rattle.lk_tables.proofs.FirstNumbers.{file_read}
use Rattle.lk_tables.proofs.targets.definition.Goals as goal

pub returns-in-Common : goal.returns-in-Common
unfolding definition
returns-in-Common c =
    let files = files_of c.args.tables.now in
    let b = binding_view c.args.binding.now in
    let f = c.args.file in
    let i = c.args.symbol in
    let lt : f < length c.files.result.now = search rules in
    let entry : file_view c.in-Some.entry.now ≡ file_at files f =
    file_read c.files.result.now f c.in-Some.entry.now lt c.in-Some.ensures.lookup.1 ∙ ap (λ (l : List File). file_at l f) c.files.ensures in
    let own : c.symbol-own.result ≡ symbol_at (file_at files f) i = c.symbol-own.ensures ∙ ap (λ (x : File). symbol_at x i) entry in
    let P : Symbol → Bound = λ s. defined_by files b s.place f i s in
    let Q : Place → Bound = λ p. defined_by files b p f i c.symbol-own.result in
    let R : List BoundCommon → Bound = λ l. room_of (find (λ (x : BoundCommon). x.symbol == i) l) in
    c.room_of.ensures ∙ ap R c.commons.ensures.value ∙ sym (ap Q c.in-Common.is) ∙ ap P own
