use Rattle.std.proofs.Common.{◌≡◌, ◌+◌, ◌<◌, [], length, sym, ap, ◌∙◌, arith}
use Rattle.lk_tables.specs.declared.heads.Symbol.{Symbol}
use Rattle.lk_tables.specs.Symbols.{is_common}
use Rattle.lk_tables.specs.Files.{File, file_at, symbol_at}
use Rattle.lk_tables.specs.TablesView.{files_of}
use Rattle.sym_resolve.specs.Asks.{common_from}
use Rattle.name_numbers.proofs.Walks.{walk_more, walk_skip}
use Rattle.sym_resolve.proofs.Walks.{live_in_file}
use Rattle.sym_resolve.proofs.Claiming.{common_none}
use Rattle.sym_resolve.proofs.CommonNumbers.{common_below, common_live, no_more, none_common, numbered_more, section_below}
use Rattle.sym_resolve.proofs.commons.commons_in.Goals as goal
use Rattle.sym_resolve.proofs.commons.commons_in.Goals.{then-is_common+in_ok-push_common, else-is_common}

pub returns-then-common_count-eq0 : goal.returns-then-common_count-eq0
returns-then-common_count-eq0 c =
    let files = files_of c.args.tables.now in
    let row = c.args.least.now in
    let rooms = c.args.rooms.now in
    c.new-commons.ensures.items ∙ sym (none_common files (common_from files row rooms) c.args.f (λ i is. common_none files row rooms c.args.f i is) (sym c.common_count.ensures ∙ c.if-common_count-eq0.true))

pub overflow_cast-section : goal.overflow_cast-section
overflow_cast-section c =
    let files = files_of c.args.tables.now in
    let f = c.args.f in
    let few = c.prove_few.ensures.section_count_is in
    let live = common_live (file_at files f) (λ e. c.if-common_count-eq0.false (c.common_count.ensures ∙ e)) in
    let long : length c.sections.result.now ≡ length (file_at files f).head.sections = ap length c.sections.ensures ∙ ap (λ (x : File). length x.head.sections) c.file-file.ensures in
    omega (arith, c.section_no-section.ensures, section_below files f c.requires.file live)

pub overflow_add-section : goal.overflow_add-section
overflow_add-section c =
    let files = files_of c.args.tables.now in
    let f = c.args.f in
    let i = c.loop-i.i in
    let few = c.prove_few.ensures.section_count_is in
    let live = common_live (file_at files f) (λ e. c.if-common_count-eq0.false (c.common_count.ensures ∙ e)) in
    let own : c.symbol.result ≡ symbol_at (file_at files f) i = c.symbol.ensures ∙ ap (λ (x : File). symbol_at x i) c.file-file.ensures in
    let common = ap (λ (s : Symbol). is_common s.place) (sym own) ∙ sym c.is_common.ensures in
    let long : length c.symbols-i-end.result.now ≡ length (file_at files f).head.symbols = ap length c.symbols-i-end.ensures ∙ ap (λ (x : File). length x.head.symbols) c.file-file.ensures in
    let at = c.loop-i.invariant.section in
    omega (arith, common_below files f i c.requires.file live (omega arith) (common ∙ c.if-is_common.true))

pub loop-i-preserved : goal.loop-i-preserved
loop-i-preserved c =
    let files = files_of c.args.tables.now in
    let row = c.args.least.now in
    let rooms = c.args.rooms.now in
    let f = c.args.f in
    let i = c.loop-i.i in
    let g = common_from files row rooms f in
    let old = c.loop-i.commons.items in
    let own : c.symbol.result ≡ symbol_at (file_at files f) i = c.symbol.ensures ∙ ap (λ (x : File). symbol_at x i) c.file-file.ensures in
    let common = ap (λ (s : Symbol). is_common s.place) (sym own) ∙ sym c.is_common.ensures in
    let long : length c.symbols-i-end.result.now ≡ length (file_at files f).head.symbols = ap length c.symbols-i-end.ensures ∙ ap (λ (x : File). length x.head.symbols) c.file-file.ensures in
    let lt : i < length (file_at files f).head.symbols = omega arith in
    elim c.if-is_common.branch [
      | then-is_common+in_ok-push_common w ↦ record {
        listed = ap (λ v. v.items) w.commons-is ∙ walk_more g [] old w.push_common.new.commons.items i c.loop-i.invariant.listed w.in_ok-push_common.ensures;
        section = w.section-is ∙ ap (λ k. k + 1) c.loop-i.invariant.section ∙ sym (numbered_more files f i lt (common ∙ w.if-is_common.true));
      }
      | else-is_common w ↦ record {
        listed = ap (λ v. v.items) w.commons-is ∙ walk_skip g [] old i c.loop-i.invariant.listed (common_none files row rooms f i (common ∙ w.if-is_common.false));
        section = w.section-is ∙ c.loop-i.invariant.section ∙ sym (no_more files f i lt (common ∙ w.if-is_common.false));
      }
    ]

pub returns : goal.returns
returns c =
    let files = files_of c.args.tables.now in
    let f = c.args.f in
    let live = common_live (file_at files f) (λ e. c.if-common_count-eq0.false (c.common_count.ensures ∙ e)) in
    let long : length c.symbols-i-end.result.now ≡ length (file_at files f).head.symbols = ap length c.symbols-i-end.ensures ∙ ap (λ (x : File). length x.head.symbols) c.file-file.ensures in
    let all : c.loop-i.i ≡ length (file_at files f).head.symbols = omega arith in
    c.loop-i.invariant.listed ∙ live_in_file files (common_from files c.args.least.now c.args.rooms.now) f c.loop-i.i live all
