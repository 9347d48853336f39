use Rattle.std.proofs.Common.{◌≡◌, ap, length, ◌∙◌, arith}
use Rattle.std.proofs.lemmas.List.{length-map}
use Rattle.lk_tables.specs.TablesView.{files_of}
use Rattle.name_numbers.specs.Texts.{text_numbers}
use Rattle.str_merge.specs.Pooling.{AreNumbered}
use Rattle.str_merge.specs.Sites.{CutPiece, gathered, piece_lists, texts_of}
use Rattle.str_merge.proofs.PoolTexts.{count_numbered, cuts_within, own_texts, pool_of}
use Rattle.str_merge.proofs.pooling.by_texts.Goals as goal

pub texts_of-requires : goal.texts_of-requires
texts_of-requires g c = cuts_within c.args.work.now c.args.pool c.args.members.now c.requires.work c.requires.members

pub number_texts-requires-after_bounds : goal.number_texts-requires-after_bounds
number_texts-requires-after_bounds g c κs bound =
    let pieces = gathered (piece_lists c.args.work.now.cuts.now) c.args.members.now in
    let few = c.requires.few in
    omega (arith, few, ap length c.in_ok-texts.ensures, length-map pieces (λ (p : CutPiece). p.text))

pub place-requires-clause-members : goal.place-requires-clause-members
place-requires-clause-members g c κs bound = cuts_within c.args.work.now c.args.pool c.args.members.now c.requires.work c.requires.members

pub place-requires-clause-near : goal.place-requires-clause-near
place-requires-clause-near g c κs bound = c.requires.work.cuts_near

pub place-requires-clause-few : goal.place-requires-clause-few
place-requires-clause-few g c κs bound =
    let pieces = gathered (piece_lists c.args.work.now.cuts.now) c.args.members.now in
    let is : c.as_slice.result.now ≡ text_numbers (texts_of pieces) = c.as_slice.ensures.value ∙ c.in_ok-numbers.ensures ∙ ap text_numbers c.in_ok-texts.ensures in
    let few = c.requires.few in
    omega (arith, few, count_numbered pieces c.as_slice.result.now is)

pub place-requires-clause-wide : goal.place-requires-clause-wide
place-requires-clause-wide g c κs bound =
    count_numbered (gathered (piece_lists c.args.work.now.cuts.now) c.args.members.now) c.as_slice.result.now
    (c.as_slice.ensures.value ∙ c.in_ok-numbers.ensures ∙ ap text_numbers c.in_ok-texts.ensures)

pub returns : goal.returns
returns g c =
    let w = c.args.work.now in
    let files = files_of w.tables.now in
    let pieces = gathered (piece_lists w.cuts.now) c.args.members.now in
    let few = c.requires.few in
    let numbered : AreNumbered files w.kept.now c.args.pool (texts_of pieces) c.as_slice.result.now = record {
      texts_are = own_texts w c.args.pool c.args.members.now c.requires.work c.requires.members;
      numbers_are = c.as_slice.ensures.value ∙ c.in_ok-numbers.ensures ∙ ap text_numbers c.in_ok-texts.ensures;
      few = omega (arith, few, length-map pieces (λ (p : CutPiece). p.text));
    } in
    pool_of w c.args.pool c.args.members.now c.as_slice.result.now c.align_of-align.result c.in_ok-pooled.pooled c.requires.work c.requires.members numbered
    c.align_of-align.ensures.value c.in_ok-pooled.ensures
