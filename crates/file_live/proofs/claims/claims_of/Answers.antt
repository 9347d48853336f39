use Rattle.std.proofs.Common.{◌≡◌, [], length, ap, ◌∙◌, arith}
use Rattle.std.specs.Prelude.{flat_map}
use Rattle.std.specs.List.{range_with_len}
use Rattle.std.proofs.lemmas.List.{length-map}
use Rattle.lk_tables.specs.FileView.{file_view, file_views}
use Rattle.name_numbers.proofs.Walks.{walk_more}
use Rattle.file_live.specs.Claims.{claims_in, claims}
use Rattle.file_live.proofs.claims.claims_of.Goals as goal

pub loop-f-preserved : goal.loop-f-preserved
loop-f-preserved c =
    walk_more (claims_in (file_views c.args.files.now)) [] c.loop-f.list.items c.push_claims.new.list.items c.loop-f.f c.loop-f.invariant c.in_ok-push_claims.ensures

pub returns : goal.returns
unfolding claims
returns c =
    let files = file_views c.args.files.now in
    let all : c.loop-f.f ≡ length files = omega (arith, length-map c.args.files.now file_view) in
    c.loop-f.invariant ∙ ap (λ k. flat_map (claims_in files) (range_with_len 0 k)) all
