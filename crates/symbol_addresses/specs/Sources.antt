-- The addresses of the symbols of a link that is laid out.
use Rattle.std.specs.Prelude.{ℕ, List}
use Rattle.link_sections.specs.Addresses.{symbol_address, symbol_addresses}
use Rattle.link_sections.specs.declared.links.LaidLink.{LaidLink}
use Rattle.link_sections.specs.Links.{link_binding, link_files, link_laid, link_leaders}

abbrev pub address_in : LaidLink → (f i : ℕ) → ℕ
address_in link = symbol_address (link_files link) (link_binding link) (link_leaders link) (link_laid link)

abbrev pub addresses_of : LaidLink → List ℕ
addresses_of link = symbol_addresses (link_files link) (link_binding link) (link_leaders link) (link_laid link)
