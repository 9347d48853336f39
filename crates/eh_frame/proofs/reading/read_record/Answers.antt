use Rattle.std.proofs.Common.{length, sym, ◌∙◌}
use Rattle.eh_frame.proofs.OneRecord.{no_length, some_length, no_fde, some_fde, bad_length, bad_fde, sound_cie, sound_fde, cie_read, fde_read}
use Rattle.eh_frame.proofs.reading.read_record.Goals as goal

pub returns-in_default-clause-sound : goal.returns-in_default-clause-sound
returns-in_default-clause-sound c =
    bad_length c.args.bytes.now c.args.relocs.now (length c.args.earlier.now) c.args.at c.requires.here (no_length c.args.bytes.now c.args.at c.in_default.ensures.value)

pub returns-then-is_cie-clause-sound : goal.returns-then-is_cie-clause-sound
returns-then-is_cie-clause-sound c =
    sound_cie c.args.bytes.now c.args.relocs.now (length c.args.earlier.now) c.args.at c.requires.here
    (some_length c.args.bytes.now c.args.at c.in-Some.len c.in-Some.ensures.value).0 (sym c.is_cie.ensures ∙ c.if-is_cie.true)

pub returns-then-is_cie-clause-value : goal.returns-then-is_cie-clause-value
returns-then-is_cie-clause-value c =
    cie_read c.args.bytes.now c.args.relocs.now c.in_ok-own.own.items (length c.args.earlier.now) c.args.at c.in-Some.len _ c.requires.here
    (some_length c.args.bytes.now c.args.at c.in-Some.len c.in-Some.ensures.value).1 (sym c.is_cie.ensures ∙ c.if-is_cie.true) c.in_ok-own.ensures c.new_record.ensures.view

pub returns-in_default-cie_of_fde-clause-sound : goal.returns-in_default-cie_of_fde-clause-sound
returns-in_default-cie_of_fde-clause-sound c =
    let j = length c.args.earlier.now in
    bad_fde c.args.bytes.now c.args.relocs.now j c.args.at c.requires.here (sym c.is_cie.ensures ∙ c.if-is_cie.false)
    (no_fde c.args.bytes.now c.args.relocs.now j (sym c.in_default-cie_of_fde.is ∙ c.cie_of_fde.ensures))

pub returns-clause-sound : goal.returns-clause-sound
returns-clause-sound c =
    let j = length c.args.earlier.now in
    sound_fde c.args.bytes.now c.args.relocs.now j c.args.at c.requires.here
    (some_length c.args.bytes.now c.args.at c.in-Some.len c.in-Some.ensures.value).0 (sym c.is_cie.ensures ∙ c.if-is_cie.false)
    (some_fde c.args.bytes.now c.args.relocs.now j c.in-Some-cie_of_fde.cie (sym c.in-Some-cie_of_fde.is ∙ c.cie_of_fde.ensures)).0

pub returns-clause-value : goal.returns-clause-value
returns-clause-value c =
    let j = length c.args.earlier.now in
    fde_read c.args.bytes.now c.args.relocs.now c.in_ok-own.own.items j c.args.at c.in-Some.len c.in-Some-cie_of_fde.cie _ c.requires.here
    (some_length c.args.bytes.now c.args.at c.in-Some.len c.in-Some.ensures.value).1 (sym c.is_cie.ensures ∙ c.if-is_cie.false)
    (some_fde c.args.bytes.now c.args.relocs.now j c.in-Some-cie_of_fde.cie (sym c.in-Some-cie_of_fde.is ∙ c.cie_of_fde.ensures)).1
    c.in_ok-own.ensures c.new_record-2.ensures.view
