use Rattle.std.proofs.Common.{ℕ, List, [], ◌∷◌, ◌∙◌, subst}
use Rattle.reloc_apply.specs.Image.{ShowsFrom, piece}
use Rattle.elf_out.proofs.prepared.lay_headers.Goals as goal

pub returns : goal.returns
returns c =
    let P : List ℕ → Type 0 = λ xs. ShowsFrom c.args.from c.args.block.now c.lay_piece.new.block (piece 0 xs ∷ []) in
    subst P (c.as_slice.ensures.value ∙ c.requires.prepared.headers) c.lay_piece.ensures
