use Rattle.std.proofs.Common.{List, [], ◌∷◌, ◌++◌, ◌∙◌, ap, subst, sym}
use Rattle.relax.specs.declared.bands.Banded.{Banded}
use Rattle.relax.specs.Bands.{AreBands}
use Rattle.relax.proofs.BandParts.{bands_one}
use Rattle.relax.proofs.bands.one_part.Goals as goal

pub returns : goal.returns
returns c =
    let ms = c.args.members.now in
    let rows = c.args.rows.now in
    let x = c.in_ok-bands_in.field-0 in
    let P : List Banded → Type 0 = AreBands ms rows c.args.piece.start c.args.piece.end in
    subst P (sym (c.in_ok-push.ensures.items ∙ ap (λ l. l ++ x ∷ []) c.in_ok-parts.ensures.items)) (bands_one ms rows c.args.piece.start c.args.piece.end x c.in_ok-bands_in.ensures)
