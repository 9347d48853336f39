use Rattle.std.proofs.Common.{◌<◌, length, sym, ap, ◌∙◌, arith}
use Rattle.std.proofs.lemmas.Bool.{eq-eqb}
use Rattle.std.proofs.lemmas.List.{length-map}
use Rattle.lk_tables.specs.FileView.{file_view, file_views}
use Rattle.lk_tables.specs.Files.{File, symbol_at}
use Rattle.lk_tables.specs.Ranks.{class_of_rank}
use Rattle.lk_tables.proofs.FirstNumbers.{file_read}
use Rattle.name_numbers.proofs.NameWords.{word_read}
use Rattle.file_live.specs.declared.claims.TheConstants.{MEMBER_CLASS}
use Rattle.file_live.specs.Live.{asks}
use Rattle.file_live.proofs.Claimed.{row_first}
use Rattle.file_live.proofs.Pulling.{pulled_none, pulled_other, pulled_some, not_equal}
use Rattle.file_live.proofs.pulls.pulled_by.Goals as goal

pub returns-then-not-is_asking : goal.returns-then-not-is_asking
returns-then-not-is_asking c =
    let files = file_views c.args.files.now in
    let own = ap (λ (x : File). symbol_at x c.args.i) (file_read c.args.files.now c.args.f c.index-files-f.result c.requires.file c.index-files-f.is) in
    let asking = ap asks (sym (c.symbol.ensures ∙ own)) ∙ sym c.is_asking.ensures in
    sym (pulled_none files c.args.f c.args.i (asking ∙ c.if-not-is_asking.true))

pub returns-then-class_of_rank-ne-MEMBER_CLASS : goal.returns-then-class_of_rank-ne-MEMBER_CLASS
returns-then-class_of_rank-ne-MEMBER_CLASS c =
    let lent = c.args.files.now in
    let files = file_views lent in
    let own = ap (λ (x : File). symbol_at x c.args.i) (file_read lent c.args.f c.index-files-f.result c.requires.file c.index-files-f.is) in
    let asking = ap asks (sym (c.symbol.ensures ∙ own)) ∙ sym c.is_asking.ensures ∙ c.if-not-is_asking.false in
    let within : c.args.f < length files = omega (arith, c.requires.file, length-map lent file_view) in
    let word = word_read files c.args.names.now c.args.f c.args.i c.number.result c.number.ensures c.requires.names within c.requires.symbol in
    let first = c.rank_at-rank.ensures ∙ row_first files c.args.row.now c.args.f c.args.i c.number.result c.requires.row within c.requires.symbol asking word in
    sym (pulled_other files c.args.f c.args.i c.rank_at-rank.result asking first
    (not_equal (class_of_rank c.rank_at-rank.result) MEMBER_CLASS (λ e. c.if-class_of_rank-ne-MEMBER_CLASS.true (c.class_of_rank.ensures ∙ e))))

pub returns : goal.returns
returns c =
    let lent = c.args.files.now in
    let files = file_views lent in
    let own = ap (λ (x : File). symbol_at x c.args.i) (file_read lent c.args.f c.index-files-f.result c.requires.file c.index-files-f.is) in
    let asking = ap asks (sym (c.symbol.ensures ∙ own)) ∙ sym c.is_asking.ensures ∙ c.if-not-is_asking.false in
    let within : c.args.f < length files = omega (arith, c.requires.file, length-map lent file_view) in
    let word = word_read files c.args.names.now c.args.f c.args.i c.number.result c.number.ensures c.requires.names within c.requires.symbol in
    let first = c.rank_at-rank.ensures ∙ row_first files c.args.row.now c.args.f c.args.i c.number.result c.requires.row within c.requires.symbol asking word in
    sym (pulled_some files c.args.f c.args.i c.rank_at-rank.result c.file_of.result asking first
    (eq-eqb (class_of_rank c.rank_at-rank.result) MEMBER_CLASS (sym c.class_of_rank.ensures ∙ c.if-class_of_rank-ne-MEMBER_CLASS.false)) c.file_of.ensures)
