use Rattle.std.proofs.Common.{◌∙◌, [], ap, get_or, sym, subst}
use Rattle.std.proofs.lemmas.List.{get_or-map}
use Rattle.str_merge.specs.Sites.{pieces_of}
use Rattle.str_merge.specs.Small.{IsNear}
use Rattle.str_merge.proofs.gathering.cut_at.Goals as goal

pub returns-clause-pieces : goal.returns-clause-pieces
returns-clause-pieces c =
    let at = get_or c.args.members.now c.args.n 0 in
    ap pieces_of c.index-cuts-members.is
    ∙ sym (get_or-map pieces_of c.args.cuts.now at _ [] (c.requires.members c.args.n 0 c.requires.n))

pub returns-clause-near : goal.returns-clause-near
returns-clause-near c = λ near.
    let at = get_or c.args.members.now c.args.n 0 in
    subst IsNear (sym c.index-cuts-members.is) (near at _ (c.requires.members c.args.n 0 c.requires.n))
