use Rattle.std.proofs.Common.{◌≡◌, ◌<◌, ap, ◌∙◌, arith, length, refl}
use Rattle.lk_tables.proofs.ByNumber.{length_by_symbol}
use Rattle.link_sections.specs.Links.{link_binding, link_files}
use Rattle.symbol_addresses.specs.Prevailing.{own_address, own_addresses}
use Rattle.symbol_addresses.specs.Sources.{address_in, addresses_of}
use Rattle.symbol_addresses.proofs.TakenAddresses.{LeadsOn, all_taken, none_taken, number_leads, taken_is, taken_more}
use Rattle.symbol_addresses.proofs.prevailing.take_addresses.Goals as goal
use Rattle.symbol_addresses.proofs.prevailing.take_addresses.Goals.{In-loop-symbol}

leads : (c : In-loop-symbol) → LeadsOn (link_files c.args.link.now) (link_binding c.args.link.now) (addresses_of c.args.link.now) (own_addresses c.args.link.now) c.loop-symbol.symbol
leads c =
    let link = c.args.link.now in
    number_leads link c.loop-symbol.symbol c.requires.bound c.prove_few.ensures
    (omega (arith, c.loop-symbol-test.true, ap length c.requires.own, length_by_symbol (link_files link) (own_address link)))

pub loop-symbol-init : goal.loop-symbol-init
loop-symbol-init c = none_taken (addresses_of c.args.link.now) (own_addresses c.args.link.now) c.args.addresses.now c.requires.own

pub taken_address-address-requires : goal.taken_address-address-requires
taken_address-address-requires c = (leads c).file

pub loop-symbol-preserved : goal.loop-symbol-preserved
loop-symbol-preserved c =
    let link = c.args.link.now in
    let now = c.loop-symbol.addresses in
    let n = c.loop-symbol.symbol in
    let below : n < length now = omega (arith, c.loop-symbol-test.true, c.loop-symbol.auto.addresses) in
    taken_more (addresses_of link) (own_addresses link) now _ n c.taken_address-address.result c.loop-symbol.invariant below refl
    (c.taken_address-address.ensures
    ∙ taken_is (link_files link) (link_binding link) (addresses_of link) (own_addresses link) now n c.loop-symbol.invariant
    (leads (goal.at.loop-symbol-preserved c).In-loop-symbol))

pub returns : goal.returns
returns c =
    let link = c.args.link.now in
    let now = c.loop-symbol.addresses in
    let long : length now ≡ c.loop-symbol.symbol = omega (arith, c.loop-symbol.auto.addresses, c.loop-symbol.auto.symbol-end, c.loop-symbol-test.false) in
    all_taken (addresses_of link) (own_addresses link) now c.loop-symbol.symbol c.loop-symbol.invariant long
    (omega (arith, long, c.loop-symbol.auto.addresses, ap length c.requires.own, length_by_symbol (link_files link) (own_address link), length_by_symbol (link_files link) (address_in link)))
