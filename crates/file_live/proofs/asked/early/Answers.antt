use Rattle.std.proofs.Common.{◌≡◌, length, ap, ◌∙◌, arith}
use Rattle.std.specs.Prelude.{flat_map}
use Rattle.std.specs.List.{range_with_len}
use Rattle.std.proofs.lemmas.List.{length-map}
use Rattle.lk_tables.specs.Binding.{least_rank}
use Rattle.lk_tables.specs.FileView.{file_view, file_views}
use Rattle.file_live.specs.Live.{early, early_offers, early_offers_in}
use Rattle.file_live.proofs.LeastOffer.{least_more, least_none}
use Rattle.file_live.proofs.asked.early.Goals as goal

pub loop-f-init : goal.loop-f-init
loop-f-init c = least_none c.args.name.now

pub loop-f-preserved : goal.loop-f-preserved
loop-f-preserved c =
    least_more c.args.name.now (early_offers_in (file_views c.args.files.now)) c.loop-f.f c.loop-f.least c.early_in.result c.min-least.result
    c.loop-f.invariant c.early_in.ensures c.min-least.ensures

pub returns : goal.returns
unfolding early early_offers
returns c =
    let files = file_views c.args.files.now in
    let all : c.loop-f.f ≡ length files = omega (arith, length-map c.args.files.now file_view) in
    c.loop-f.invariant ∙ ap (λ k. least_rank c.args.name.now (flat_map (early_offers_in files) (range_with_len 0 k))) all
