use Rattle.std.proofs.Common.{◌≡◌, ◌+◌, ◌-◌, ◌<◌, ◌≤◌, length, get_or, sym, ap, ◌∙◌, arith}
use Rattle.lk_tables.specs.Records.{id_at, start_of, is_cie}
use Rattle.eh_frame.proofs.Pointers.{element, leads_out, leads_nowhere, leads_to, leads_to_fde}
use Rattle.eh_frame.proofs.Walk.{in_order}
use Rattle.eh_frame.proofs.reading.cie_before.Goals as goal

pub records_before-number-requires : goal.records_before-number-requires
records_before-number-requires c = in_order c.args.bytes.now c.args.relocs.now c.args.earlier.now c.requires.earlier

pub is_cie-requires : goal.is_cie-requires
is_cie-requires c =
    let lt : c.records_before-number.result < length c.args.earlier.now = omega (arith, c.records_before-number.ensures.bound, c.if-number-earlier.false) in
    let d = element c.args.earlier.now c.records_before-number.result lt in
    omega (arith, c.start_of-start.ensures d, c.requires.inside c.records_before-number.result d lt)

pub returns-then-end-id : goal.returns-then-end-id
returns-then-end-id c =
    let j = length c.args.earlier.now in
    let b = c.args.bytes.now in
    let id : c.word_at-id.result ≡ id_at b (start_of b j) = c.word_at-id.ensures ∙ ap (id_at b) c.requires.here in
    sym (leads_out b j (omega (arith, c.if-end-id.true, id, c.requires.here)))

pub returns-then-number-earlier : goal.returns-then-number-earlier
returns-then-number-earlier c =
    let j = length c.args.earlier.now in
    let b = c.args.bytes.now in
    let n = c.records_before-number.result in
    let id : c.word_at-id.result ≡ id_at b (start_of b j) = c.word_at-id.ensures ∙ ap (id_at b) c.requires.here in
    let most : id_at b (start_of b j) ≤ start_of b j + 4 = omega (arith, c.if-end-id.false, id, c.requires.here) in
    let target : c.args.at + 4 - c.word_at-id.result ≡ start_of b j + 4 - id_at b (start_of b j) = omega (arith, id, c.requires.here) in
    let before = c.records_before-number.ensures.before in
    let next = c.records_before-number.ensures.next in
    sym (leads_nowhere b c.args.relocs.now c.args.earlier.now n (c.args.at + 4 - c.word_at-id.result) c.requires.earlier most target
    before next c.records_before-number.ensures.bound (λ d lt same. omega (arith, lt, c.if-number-earlier.true)))

pub returns-then-start-target : goal.returns-then-start-target
returns-then-start-target c =
    let j = length c.args.earlier.now in
    let b = c.args.bytes.now in
    let n = c.records_before-number.result in
    let id : c.word_at-id.result ≡ id_at b (start_of b j) = c.word_at-id.ensures ∙ ap (id_at b) c.requires.here in
    let most : id_at b (start_of b j) ≤ start_of b j + 4 = omega (arith, c.if-end-id.false, id, c.requires.here) in
    let target : c.args.at + 4 - c.word_at-id.result ≡ start_of b j + 4 - id_at b (start_of b j) = omega (arith, id, c.requires.here) in
    sym (leads_nowhere b c.args.relocs.now c.args.earlier.now n (c.args.at + 4 - c.word_at-id.result) c.requires.earlier most target
    c.records_before-number.ensures.before c.records_before-number.ensures.next c.records_before-number.ensures.bound
    (λ d lt same. c.if-start-target.true (c.start_of-start.ensures d ∙ same)))

pub returns-then-not-is_cie : goal.returns-then-not-is_cie
returns-then-not-is_cie c =
    let j = length c.args.earlier.now in
    let b = c.args.bytes.now in
    let n = c.records_before-number.result in
    let id : c.word_at-id.result ≡ id_at b (start_of b j) = c.word_at-id.ensures ∙ ap (id_at b) c.requires.here in
    let most : id_at b (start_of b j) ≤ start_of b j + 4 = omega (arith, c.if-end-id.false, id, c.requires.here) in
    let lt : n < j = omega (arith, c.records_before-number.ensures.bound, c.if-number-earlier.false) in
    let d = element c.args.earlier.now n lt in
    let at : (get_or c.args.earlier.now n d).from ≡ start_of b j + 4 - id_at b (start_of b j) = omega (arith, c.start_of-start.ensures d, c.if-start-target.false, id, c.requires.here) in
    let kind = sym (ap (is_cie b) (c.start_of-start.ensures d)) ∙ sym c.is_cie.ensures ∙ c.if-not-is_cie.true in
    sym (leads_to_fde b c.args.relocs.now c.args.earlier.now n d c.requires.earlier most lt at kind)

pub returns : goal.returns
returns c =
    let j = length c.args.earlier.now in
    let b = c.args.bytes.now in
    let n = c.records_before-number.result in
    let id : c.word_at-id.result ≡ id_at b (start_of b j) = c.word_at-id.ensures ∙ ap (id_at b) c.requires.here in
    let most : id_at b (start_of b j) ≤ start_of b j + 4 = omega (arith, c.if-end-id.false, id, c.requires.here) in
    let lt : n < j = omega (arith, c.records_before-number.ensures.bound, c.if-number-earlier.false) in
    let d = element c.args.earlier.now n lt in
    let target : c.args.at + 4 - c.word_at-id.result ≡ start_of b j + 4 - id_at b (start_of b j) = omega (arith, id, c.requires.here) in
    let at : (get_or c.args.earlier.now n d).from ≡ start_of b j + 4 - id_at b (start_of b j) = omega (arith, c.start_of-start.ensures d, c.if-start-target.false, id, c.requires.here) in
    let kind = sym (ap (is_cie b) (c.start_of-start.ensures d)) ∙ sym c.is_cie.ensures ∙ c.if-not-is_cie.false in
    sym (leads_to b c.args.relocs.now c.args.earlier.now n (c.args.at + 4 - c.word_at-id.result) d c.requires.earlier most target c.records_before-number.ensures.before lt at kind)
