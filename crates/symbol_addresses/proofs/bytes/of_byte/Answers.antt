use Rattle.std.proofs.Common.{rules, ◌≡◌, ◌≢◌, ℕ, ◌∙◌, ap, pos, ℤ, Option, Some, None, sym}
use Rattle.link_sections.specs.Addresses.{byte_address, target_address}
use Rattle.link_sections.specs.LaidOut.{with_contents}
use Rattle.link_sections.specs.declared.targets.Target.{Target}
use Rattle.link_sections.specs.declared.targets.Target.TheVariants as targets
use Rattle.link_sections.specs.PieceTargets.{in_section, piece_target}
use Rattle.link_sections.specs.PoolViews.{Merged, merged_at, merged_views, pools_view}
use Rattle.link_sections.specs.Links.{link_binding, link_files, link_laid, link_leaders}
use Rattle.symbol_addresses.proofs.bytes.of_byte.Goals as goal

no_linker : (m : Option Merged) (section offset : ℕ) (rest : ℤ) (t : Target) (n : ℕ) → t ≡ in_section m section offset rest → t ≢ targets.Linker n
no_linker None section offset rest t n is = λ same. let no : targets.Section section offset rest ≡ targets.Linker n = sym is ∙ same in cc
no_linker (Some m) section offset rest t n is = λ same. let no = sym is ∙ same in cc

pub in_target-requires : goal.in_target-requires
unfolding piece_target
in_target-requires c = record {
  other = λ n. no_linker (merged_at (merged_views c.args.link.now.pools.now) c.args.section) c.args.section c.args.offset (pos 0) c.piece_target.result n c.piece_target.ensures;
}

pub returns-clause-value : goal.returns-clause-value
unfolding byte_address piece_target pools_view with_contents
returns-clause-value c =
    let link = c.args.link.now in
    let address = target_address (link_files link) (link_binding link) (link_leaders link) (link_laid link) in
    let is : c.in_target.result ≡ pos (byte_address (link_files link) (link_binding link) (link_leaders link) (link_laid link) c.args.section c.args.offset) =
    c.in_target.ensures.value ∙ ap (λ t. pos (address t)) c.piece_target.ensures in
    search (rules, is)
