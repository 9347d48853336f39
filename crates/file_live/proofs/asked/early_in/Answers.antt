use Rattle.std.proofs.Common.{◌≡◌, length, ap, ◌∙◌, arith}
use Rattle.std.specs.Prelude.{flat_map}
use Rattle.std.specs.List.{range_with_len}
use Rattle.std.proofs.lemmas.List.{length-map}
use Rattle.lk_tables.specs.Binding.{least_rank}
use Rattle.lk_tables.specs.FileView.{file_view, file_views}
use Rattle.lk_tables.specs.Files.{File, file_at}
use Rattle.lk_tables.proofs.FirstNumbers.{file_read, first_within}
use Rattle.file_live.specs.Live.{early_offer_at, early_offers_in}
use Rattle.file_live.proofs.LeastOffer.{least_more, least_none}
use Rattle.file_live.proofs.asked.early_in.Goals as goal

pub early_at-requires-clause-symbol : goal.early_at-requires-clause-symbol
early_at-requires-clause-symbol c =
    let lent = c.args.files.now in
    let own = ap (λ (x : File). length x.head.symbols) (file_read lent c.args.f c.index-files-f.result c.requires.file c.index-files-f.is) in
    omega (arith, c.loop-i-test.true, ap length c.symbols-i-end.ensures, own, c.requires.symbols, first_within (file_views lent) c.args.f (omega (arith, c.requires.file, length-map lent file_view)))

pub loop-i-init : goal.loop-i-init
loop-i-init c = least_none c.args.name.now

pub loop-i-preserved : goal.loop-i-preserved
loop-i-preserved c =
    least_more c.args.name.now (early_offer_at (file_views c.args.files.now) c.args.f) c.loop-i.i c.loop-i.least c.early_at.result c.min-least.result
    c.loop-i.invariant c.early_at.ensures c.min-least.ensures

pub returns : goal.returns
unfolding early_offers_in
returns c =
    let lent = c.args.files.now in
    let files = file_views lent in
    let own = ap (λ (x : File). length x.head.symbols) (file_read lent c.args.f c.index-files-f.result c.requires.file c.index-files-f.is) in
    let all : c.loop-i.i ≡ length (file_at files c.args.f).head.symbols = omega (arith, ap length c.symbols-i-end.ensures, own) in
    c.loop-i.invariant ∙ ap (λ k. least_rank c.args.name.now (flat_map (early_offer_at files c.args.f) (range_with_len 0 k))) all
