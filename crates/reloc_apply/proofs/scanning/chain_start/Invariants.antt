use Rattle.std.proofs.Common.{◌≡◌, ℕ, ◌+◌, ◌<◌, ◌≤◌, get_or}
use Rattle.lk_tables.specs.Files.{no_reloc}
use Rattle.reloc_apply.specs.Sites.{end_by, offset_by, set_by}
use Rattle.reloc_apply.proofs.scanning.chain_start.Given as goal

abbrev pub invariant-loop-back : goal.invariant-loop-back
invariant-loop-back l = record {
  within : l.first ≤ l.k;
  behind : l.k ≤ l.first + l.back;
  most : l.limit ≤ offset_by l.view l.source (get_or l.source.relocs.now l.first no_reloc) + set_by l.view l.source (get_or l.source.relocs.now l.first no_reloc);
  own : l.first ≡ l.k → l.limit ≡ offset_by l.view l.source (get_or l.source.relocs.now l.first no_reloc);
  clear : (j : ℕ) → l.k ≤ j + l.back → j < l.first → end_by l.view l.source (get_or l.source.relocs.now j no_reloc) ≤ l.limit;
}
