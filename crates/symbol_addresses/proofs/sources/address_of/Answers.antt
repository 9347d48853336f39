use Rattle.std.proofs.Common.{rules, ◌≡◌, ℕ, ◌<◌, ◌^◌, arith, ℤ, pos, ◌<ℤ◌}
use Rattle.std.proofs.lemmas.Int.{ints}
use Rattle.link_sections.specs.Addresses.{byte_address}
use Rattle.link_sections.specs.LaidOut.{with_contents}
use Rattle.link_sections.specs.Links.{link_binding, link_files, link_laid, link_leaders}
use Rattle.symbol_addresses.proofs.ByteRooms.{byte_few}
use Rattle.link_sections.proofs.PoolPositions.{position_few}
use Rattle.symbol_addresses.proofs.sources.address_of.Goals as goal

cast_few : (v : ℤ) (n : ℕ) → v ≡ pos n → n < 2 ^ 64 → v <ℤ pos (2 ^ 64)
cast_few v n is few = grind (arith, ints)

pub overflow_cast-result : goal.overflow_cast-result
unfolding with_contents
overflow_cast-result c =
    let link = c.args.sources.now.link in
    let files = link_files link in
    let few : byte_address files (link_binding link) (link_leaders link) (link_laid link) c.in-InSection.section c.in-InSection.offset < 2 ^ 64 =
    byte_few files (link_binding link) (link_leaders link) (link_laid link) c.args.sources.now.sound c.in-InSection.section c.in-InSection.offset
    (position_few files link.pools.now) (c.requires.near c.in-InSection.section c.in-InSection.offset c.in-InSection.is) in
    let most = cast_few c.of_byte.result _ c.of_byte.ensures.value few in
    search (rules, most)
