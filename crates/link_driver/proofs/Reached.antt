-- A shortened call reaches its target: the distance is even, and within what its size allows.
use Rattle.std.proofs.Common.{◌≡◌, ◌≢◌, ℕ, ◌+◌, ◌-◌, ◌/◌, ◌<◌, ◌≤◌, ◌%◌, ◌^◌, ◌⊎◌, ◌==◌, ◌&&◌, Bool, true, false, if◌then◌else◌, Option, Some, List, length, get_or, refl, sym, ap, ◌∙◌, subst, arith, inl, inr, nat_lt, pos}
use Rattle.std.specs.Prelude.{nat_le, unwrap_or}
use Rattle.std.proofs.lemmas.Bool.{and_parts, cases_lt, eq-eqb, eqb-true, false≢true, le-leb, le-ltb, leb-true, lt-leb, lt-ltb, ne_eqb}
use Rattle.std.proofs.lemmas.Nat.{div-add-mod'}
use Rattle.lk_base.specs.declared.abi.TheConstants.{SHT_NOBITS}
use Rattle.lk_tables.specs.declared.classes.Class.{Class}
use Rattle.lk_tables.specs.declared.objects.Reloc.{Reloc}
use Rattle.lk_tables.specs.declared.tables.Tables.{Tables}
use Rattle.lk_tables.specs.Binding.{Bindings}
use Rattle.lk_tables.specs.Classes.{is_in}
use Rattle.lk_tables.specs.Files.{File, file_at, no_reloc, section_at, section_total}
use Rattle.lk_tables.specs.Sections.{contents_of}
use Rattle.lk_tables.specs.Sites.{place_of, relocs_of}
use Rattle.lk_tables.specs.TablesView.{files_of}
use Rattle.link_sections.specs.declared.members.Content.TheVariants.{Section}
use Rattle.link_sections.specs.declared.members.Member.{Member as LaidMember}
use Rattle.link_sections.specs.declared.pools.Pool.{Pool}
use Rattle.link_sections.specs.declared.targets.Target.TheVariants as targets
use Rattle.link_sections.specs.Calls.{call_size, is_call}
use Rattle.link_sections.specs.Cuts.{Cut, new_offset}
use Rattle.link_sections.specs.InputSections.{input_at}
use Rattle.link_sections.specs.LaidOut.{LaidOut, address_in, cuts_at, start_at}
use Rattle.link_sections.specs.Leaders.{leader_at, leader_of, leads}
use Rattle.link_sections.specs.PieceTargets.{target_at}
use Rattle.link_sections.specs.PoolViews.{Merged}
use Rattle.link_sections.specs.Sound.{IsSectionMember, is_section}
use Rattle.layout.proofs.CutsPassed.{AreFrom, apart_from}
use Rattle.relax.specs.declared.calls.Call.{Call}
use Rattle.output_sections.specs.declared.rows.Row.{Row}
use Rattle.relax.specs.CallSizes.{all_calls, call_no, cuts_by, distance, first_call, goes_forwards, is_near, member_at, place_in, reloc_of, size_in, upper_offset, upper_place}
use Rattle.relax.specs.Jumps.{allows, reach, size_at}
use Rattle.relax.specs.Placing.{IsOneSize}
use Rattle.relax.proofs.CutSteps.{size_one}
use Rattle.relax.proofs.Fitting.{call_kind, call_width, cuts_apart, end_is, size_is, sound_of}
use Rattle.relax.proofs.PointSteps.{first_most}
use Rattle.link_driver.proofs.Classes.{HasBits, class_bits, class_some}
use Rattle.link_driver.proofs.Evens.{times_even}
use Rattle.link_driver.proofs.Given.{IsGiven, the_members, the_rows}
use Rattle.link_driver.proofs.LayoutRows.{any_place, section_is}
use Rattle.link_driver.proofs.Members.{Stands, at_place, class_of, stands}
use Rattle.link_driver.proofs.SectionLists.{align_even, call_even, cuts_are, has_bits, has_call, i_low, no_nearer, rises, rows_are_sound, stays_even}
use Rattle.link_driver.proofs.Shortened.{numbered_call, one_call, safe_fits, short_call}
use Rattle.link_driver.proofs.Spans.{IsSpan, span}
use Rattle.link_driver.proofs.TargetsLie.{target_lies}

-- a multiple of an even number is even
multiple_even : (a n : ℕ) → n % 2 ≡ 0 → a % n ≡ 0 → a % 2 ≡ 0
multiple_even a n even is = let whole = div-add-mod' a n in let q = times_even (a / n) n even in omega (arith, whole, q, is)

-- a size of two or four bytes allows no more than its reach
small_allows : (size bytes : ℕ) (forwards : Bool) → (size ≡ 2) ⊎ (size ≡ 4) → allows size forwards bytes ≡ true → bytes ≤ reach size forwards
unfolding allows
small_allows size bytes forwards is allowed = elim is [
  | inl two ↦ leb-true bytes (reach size forwards) (sym (ap (λ t. if t then nat_le bytes (reach size forwards) else true) (ap (λ t. if t then true else size == 4) (eq-eqb size 2 two))) ∙ allowed)
  | inr four ↦
      let test : (if size == 2 then true else size == 4) ≡ true = ap (λ t. if t then true else size == 4) (ne_eqb size 2 (λ e. omega (arith, e, four))) ∙ eq-eqb size 4 four in
      leb-true bytes (reach size forwards) (sym (ap (λ t. if t then nat_le bytes (reach size forwards) else true) test) ∙ allowed)
]

-- which way a call goes
forwards_by : (c : Call) (from to : ℕ) → c.from ≡ from → c.to ≡ to → goes_forwards c ≡ (if from == to then nat_le c.offset c.target else nat_lt from to)
forwards_by c from to f t = ap (λ n. if n == c.to then nat_le c.offset c.target else nat_lt n c.to) f ∙ ap (λ n. if from == n then nat_le c.offset c.target else nat_lt from n) t

module _ (ms : List Row) (rows : List (List Call)) (z : List ℕ) (c : Call) (i j : ℕ) (from : c.from ≡ i) (to : c.to ≡ j) where
  distance_ahead : goes_forwards c ≡ true → distance ms rows z c ≡ upper_place ms rows z j c.target - upper_place ms rows z i c.offset
  unfolding distance
  distance_ahead ahead =
      ap (λ t. if t then upper_place ms rows z c.to c.target - upper_place ms rows z c.from c.offset else upper_place ms rows z c.from c.offset - upper_place ms rows z c.to c.target) ahead
      ∙ ap (λ n. upper_place ms rows z n c.target - upper_place ms rows z c.from c.offset) to ∙ ap (λ n. upper_place ms rows z j c.target - upper_place ms rows z n c.offset) from

  distance_back : goes_forwards c ≡ false → distance ms rows z c ≡ upper_place ms rows z i c.offset - upper_place ms rows z j c.target
  unfolding distance
  distance_back back =
      ap (λ t. if t then upper_place ms rows z c.to c.target - upper_place ms rows z c.from c.offset else upper_place ms rows z c.from c.offset - upper_place ms rows z c.to c.target) back
      ∙ ap (λ n. upper_place ms rows z c.from c.offset - upper_place ms rows z n c.target) to ∙ ap (λ n. upper_place ms rows z n c.offset - upper_place ms rows z j c.target) from

-- offsets of one member
one_member : (ms : List Row) (rows : List (List Call)) (z : List ℕ) (i x y : ℕ) → upper_place ms rows z i y + upper_offset ms rows z i x ≡ upper_place ms rows z i x + upper_offset ms rows z i y
unfolding upper_place
one_member ms rows z i x y = omega arith

-- what is near
record AreNear (ms : List Row) (i j offset : ℕ) : Type 0 where
  low : j < length ms
  group : (member_at ms i).group ≡ (member_at ms j).group
  one : 2 ≤ (member_at ms i).align
  other : 2 ≤ (member_at ms j).align
  even : offset % 2 ≡ 0

near_parts : (ms : List Row) (i j offset : ℕ) → is_near ms i j offset ≡ true → AreNear ms i j offset
unfolding is_near
near_parts ms i j offset is =
    let mi = member_at ms i in
    let mj = member_at ms j in
    let one = and_parts (nat_lt j (length ms)) (mi.group == mj.group && (nat_le 2 mi.align && (nat_le 2 mj.align && offset % 2 == 0))) is in
    let two = and_parts (mi.group == mj.group) (nat_le 2 mi.align && (nat_le 2 mj.align && offset % 2 == 0)) one.1 in
    let three = and_parts (nat_le 2 mi.align) (nat_le 2 mj.align && offset % 2 == 0) two.1 in
    let four = and_parts (nat_le 2 mj.align) (offset % 2 == 0) three.1 in
    record {
      low = elim (cases_lt j (length ms)) [ inl lt ↦ lt | inr past ↦ absurd (false≢true (sym (le-ltb j (length ms) past) ∙ one.0)) ];
      group = eqb-true mi.group mj.group two.0;
      one = leb-true 2 mi.align three.0;
      other = leb-true 2 mj.align four.0;
      even = eqb-true (offset % 2) 0 four.1;
    }

-- the value of a shortened call
pub record Reaches (files : List File) (b : Bindings) (merged : List (Option Merged)) (leaders : List (Option ℕ)) (laid : LaidOut) (n k : ℕ) : Type 0 where
  pub section : ℕ
  pub offset : ℕ
  pub target : target_at files b merged n k ≡ targets.Section section offset (pos 0)
  pub size : (call_size (cuts_at laid n) (reloc_of files n k).offset ≡ 2) ⊎ (call_size (cuts_at laid n) (reloc_of files n k).offset ≡ 4)
  pub target_even : address_in leaders laid section offset % 2 ≡ 0
  pub place_even : (start_at laid n + new_offset (cuts_at laid n) (reloc_of files n k).offset) % 2 ≡ 0
  pub ahead : start_at laid n + new_offset (cuts_at laid n) (reloc_of files n k).offset ≤ address_in leaders laid section offset
      → address_in leaders laid section offset - (start_at laid n + new_offset (cuts_at laid n) (reloc_of files n k).offset) ≤ reach (call_size (cuts_at laid n) (reloc_of files n k).offset) true
  pub back : address_in leaders laid section offset ≤ start_at laid n + new_offset (cuts_at laid n) (reloc_of files n k).offset
      → (start_at laid n + new_offset (cuts_at laid n) (reloc_of files n k).offset) - address_in leaders laid section offset ≤ reach (call_size (cuts_at laid n) (reloc_of files n k).offset) false

address_by : (leaders : List (Option ℕ)) (laid : LaidOut) (section offset m : ℕ) → leader_of leaders section ≡ m → address_in leaders laid section offset ≡ start_at laid m + new_offset (cuts_at laid m) offset
unfolding address_in
address_by leaders laid section offset m is = ap (λ k. start_at laid k + new_offset (cuts_at laid k) offset) is

section_same : (n m : ℕ) → Section n ≡ Section m → n ≡ m
section_same n m e = cc

-- where a call and its target stand, and how far apart
record IsApart (a p far : ℕ) (forwards : Bool) : Type 0 where
  ahead : forwards ≡ true → (p ≤ a) × (a - p ≤ far)
  back : forwards ≡ false → (a ≤ p) × (p - a ≤ far)

module _ (tables : Tables) (b : Bindings) (pools : List Pool) (merged : List (Option Merged)) (words : ℕ) (leaders : List (Option ℕ)) (laid : LaidOut) (sizes : List (List Cut)) (z : List ℕ)
    (given : IsGiven tables b pools merged words leaders laid sizes z) where
  abbrev files : List File
  files = files_of tables

  abbrev ms : List Row
  ms = the_members tables b pools merged words leaders laid sizes z

  abbrev rows : List (List Call)
  rows = the_rows tables b pools merged words leaders laid sizes z

  few : section_total files ≤ 2 ^ 28
  few = given.few.section_count_is

  abbrev here : (n o : ℕ) → ℕ
  here n o = start_at laid n + new_offset (cuts_at laid n) o

  -- a section with bytes starts at a multiple of its alignment
  start_aligned : (n : ℕ) → n < section_total files → leads leaders n ≡ true → (input_at files b n).sh_type ≢ SHT_NOBITS → 0 < (input_at files b n).size → start_at laid n % (input_at files b n).align ≡ 0
  start_aligned n n_low leader bits some =
      let no_one : LaidMember = record { content = Section n; start = 0; size = 0 } in
      let at = any_place (λ (m : LaidMember). is_section n m.content) laid.members no_one (given.sound.listed n n_low leader bits some) in
      let m : LaidMember = get_or laid.members at.0 no_one in
      let content = section_is n m.content at.2 in
      let own : IsSectionMember files b leaders laid n m = given.sound.sections at.0 no_one at.1 n content in
      subst (λ a. a % (input_at files b n).align ≡ 0) own.start (given.aligned at.0 no_one at.1 n content)

  -- the member of a section
  module _ (n : ℕ) (n_low : n < section_total files) (leader : leads leaders n ≡ true) where
    i_in : place_in ms n < length ms
    i_in = i_low tables b pools merged words leaders laid sizes z given n n_low leader

    at : (member_at ms (place_in ms n)).content ≡ Section n
    at = at_place ms n i_in

    align_of : (class : Class) → is_in class (input_at files b n).sh_type (input_at files b n).flags ≡ true → (member_at ms (place_in ms n)).align ≡ (input_at files b n).align
    align_of class of =
        let own : Stands files b pools words leaders few class n (place_in ms n) = stands files b pools words leaders few class n (place_in ms n) i_in at of in
        ap (λ (r : Row). r.align) own.same ∙ own.row.align

    plain_from : AreFrom 0 (cuts_by (size_in rows z (place_in ms n)) (relocs_of files n))
    plain_from =
        let file = file_at files (place_of files n).file in
        let s = section_at file (place_of files n).index in
        let sz = size_in rows z (place_in ms n) in
        apart_from (cuts_by sz (relocs_of files n))
        (cuts_apart (contents_of file.bytes s) s.size (relocs_of files n) (sound_of tables n n_low) sz (λ k. size_one rows z (place_in ms n) k given.ones))

    even_at : start_at laid n % 2 ≡ 0 → (o : ℕ) → o % 2 ≡ 0 → here n o % 2 ≡ 0
    even_at even o o_even =
        let moved = stays_even tables b pools merged words leaders laid sizes z given n n_low leader plain_from even o o_even in
        omega (arith, even, moved)

  module _ (n m : ℕ) (n_low : n < section_total files) (m_low : m < section_total files) (n_leads : leads leaders n ≡ true) (m_leads : leads leaders m ≡ true)
      (class : Class) (bits : HasBits class) (n_of : is_in class (input_at files b n).sh_type (input_at files b n).flags ≡ true) (m_of : is_in class (input_at files b m).sh_type (input_at files b m).flags ≡ true)
      (near : (member_at ms (place_in ms n)).group ≡ (member_at ms (place_in ms m)).group) (c : Call) (from : c.from ≡ place_in ms n) (to : c.to ≡ place_in ms m)
      (o_in : c.offset ≤ (input_at files b n).size) (t_in : c.target ≤ (input_at files b m).size) (some : 0 < (input_at files b n).size)
      (n_start : start_at laid n % (input_at files b n).align ≡ 0) where
    abbrev i : ℕ
    i = place_in ms n

    abbrev j : ℕ
    j = place_in ms m

    record IsDone : Type 0 where
      apart : IsApart (here m c.target) (here n c.offset) (distance ms rows z c) (goes_forwards c)
      m_start : start_at laid m % (input_at files b m).align ≡ 0

    ahead_of : i < j → IsDone
    ahead_of less =
        let is : IsSpan tables b pools merged words leaders laid sizes z given class bits n m n_low m_low n_leads m_leads n_of near less (omega (arith, some)) c.offset c.target =
        span tables b pools merged words leaders laid sizes z given class bits n m n_low m_low n_leads m_leads n_of near less (omega (arith, some)) c.offset c.target o_in in
        let f : goes_forwards c ≡ true = forwards_by c i j from to ∙ ap (λ t. if t then nat_le c.offset c.target else nat_lt i j) (ne_eqb i j (λ e. omega (arith, e, less))) ∙ lt-ltb i j less in
        let d = distance_ahead ms rows z c i j from to f in
        let a = is.after in
        let most = is.most in
        record {
          apart = record {
            ahead = λ yes_is. (a, omega (arith, a, most, d));
            back = λ no_is. absurd (false≢true (sym no_is ∙ f));
          };
          m_start = is.high_aligned;
        }

    back_of : j < i → IsDone
    back_of less =
        let is : IsSpan tables b pools merged words leaders laid sizes z given class bits m n m_low n_low m_leads n_leads m_of (sym near) less (omega (arith, some)) c.target c.offset =
        span tables b pools merged words leaders laid sizes z given class bits m n m_low n_low m_leads n_leads m_of (sym near) less (omega (arith, some)) c.target c.offset t_in in
        let f : goes_forwards c ≡ false = forwards_by c i j from to ∙ ap (λ t. if t then nat_le c.offset c.target else nat_lt i j) (ne_eqb i j (λ e. omega (arith, e, less))) ∙ le-ltb i j (omega (arith, less)) in
        let d = distance_back ms rows z c i j from to f in
        let a = is.after in
        let most = is.most in
        record {
          apart = record {
            ahead = λ yes_is. absurd (false≢true (sym f ∙ yes_is));
            back = λ no_is. (a, omega (arith, a, most, d));
          };
          m_start = is.low_aligned;
        }

    same_of : i ≡ j → IsDone
    same_of same =
        let numbers : n ≡ m = section_same n m (sym (at n n_low n_leads) ∙ ap (λ k. (member_at ms k).content) same ∙ at m m_low m_leads) in
        let m_start : start_at laid m % (input_at files b m).align ≡ 0 = subst (λ k. start_at laid k % (input_at files b k).align ≡ 0) numbers n_start in
        let f : goes_forwards c ≡ nat_le c.offset c.target = forwards_by c i j from to ∙ ap (λ t. if t then nat_le c.offset c.target else nat_lt i j) (eq-eqb i j same) in
        let target_is : here m c.target ≡ here n c.target = ap (λ k. here k c.target) (sym numbers) in
        let upper_is : upper_place ms rows z j c.target ≡ upper_place ms rows z i c.target = ap (λ k. upper_place ms rows z k c.target) (sym same) in
        let places = one_member ms rows z i c.offset c.target in
        elim (cases_lt c.target c.offset) [
          | inl back ↦
              let g : goes_forwards c ≡ false = f ∙ lt-leb c.offset c.target back in
              let d = distance_back ms rows z c i j from to g in
              let up = rises tables b pools merged words leaders laid sizes z given n n_low n_leads c.target c.offset (omega (arith, back)) in
              let near_is = no_nearer tables b pools merged words leaders laid sizes z given n n_low n_leads c.target c.offset (omega (arith, back)) in
              record {
                apart = record {
                  ahead = λ yes_is. absurd (false≢true (sym g ∙ yes_is));
                  back = λ no_is. (omega (arith, target_is, up), omega (arith, target_is, d, near_is, places, upper_is, up));
                };
                m_start = m_start;
              }
          | inr on ↦
              let g : goes_forwards c ≡ true = f ∙ le-leb c.offset c.target on in
              let d = distance_ahead ms rows z c i j from to g in
              let up = rises tables b pools merged words leaders laid sizes z given n n_low n_leads c.offset c.target on in
              let near_is = no_nearer tables b pools merged words leaders laid sizes z given n n_low n_leads c.offset c.target on in
              record {
                apart = record {
                  ahead = λ yes_is. (omega (arith, target_is, up), omega (arith, target_is, d, near_is, places, upper_is, up));
                  back = λ no_is. absurd (false≢true (sym no_is ∙ g));
                };
                m_start = m_start;
              }
        ]

    any_of : IsDone
    any_of = elim (cases_lt i j) [
      | inl less ↦ ahead_of less
      | inr upto ↦ elim (cases_lt j i) [ inl more ↦ back_of more | inr le ↦ same_of (omega (arith, upto, le)) ]
    ]

  small_size : (s : ℕ) → IsOneSize s → s < 8 → (s ≡ 2) ⊎ (s ≡ 4)
  small_size s one small = elim one [ inl two ↦ inl two | inr more ↦ elim more [ inl four ↦ inr four | inr eight ↦ absurd (omega (arith, eight, small)) ] ]

  leader_is_of : (section m : ℕ) → leader_at leaders section ≡ Some m → leader_of leaders section ≡ m
  leader_is_of section m is = ap (λ o. unwrap_or o section) is

  -- the reach of a size, either way
  far_by : (size a p far : ℕ) (forwards : Bool) → (size ≡ 2) ⊎ (size ≡ 4) → IsApart a p far forwards → far ≤ reach size forwards → (p ≤ a → a - p ≤ reach size true) × (a ≤ p → p - a ≤ reach size false)
  far_by size a p far true is apart most =
      let both = apart.ahead refl in
      let b0 = both.0 in
      let b1 = both.1 in
      ((λ le. omega (arith, b1, most)), (λ le. omega (arith, b0, le)))
  far_by size a p far false is apart most =
      let both = apart.back refl in
      let b0 = both.0 in
      let b1 = both.1 in
      ((λ le. omega (arith, b0, le)), (λ le. omega (arith, b1, most)))

  pub reached : (n k : ℕ) → n < section_total files → leads leaders n ≡ true → k < length (relocs_of files n) → is_call (reloc_of files n k).kind ≡ true
      → call_size (cuts_at laid n) (reloc_of files n k).offset < 8 → Reaches files b merged leaders laid n k
  reached n k n_low n_leads k_low call small =
      let r : Reloc = reloc_of files n k in
      let sz : ℕ → ℕ = size_in rows z (place_in ms n) in
      let cuts = cuts_are tables b pools merged words leaders laid sizes z given n n_low n_leads in
      let size_same = ap (λ l. call_size l r.offset) cuts in
      let short = short_call sz (relocs_of files n) (start_at laid n) r.offset (omega (arith, small, size_same)) in
      let numbers : short.reloc ≡ k = one_call tables n short.reloc k n_low short.low k_low short.call call short.at in
      let sized : sz k ≡ call_size (cuts_at laid n) r.offset = ap sz (sym numbers) ∙ short.size_is ∙ sym size_same in
      let sz_small : sz k < 8 = omega (arith, sized, small) in
      let has = has_call tables b pools merged words leaders laid sizes z given n n_low n_leads k sz_small in
      let c : Call = has.call in
      let lands = has.lands in
      let m : ℕ = lands.leader in
      let stays = given.are.stay lands.section m lands.leader_is in
      let m_low : m < section_total files = stays.number in
      let m_leads : leads leaders m ≡ true = given.are.own lands.section m lands.leader_is in
      let near = near_parts ms (place_in ms n) (place_in ms m) c.target lands.near in
      let sound = rows_are_sound tables b pools merged words leaders laid sizes z given in
      let i_is = i_in n n_low n_leads in
      let q : ℕ = first_call rows (place_in ms n) + has.place in
      let low = has.low in
      let rows_count = sound.count in
      let first = first_most rows (place_in ms n) (omega (arith, i_is, rows_count)) in
      let q_low : q < length (all_calls rows) = omega (arith, first, low) in
      let no_one : Call = record { from = 0; offset = 0; reloc = 0; to = 0; target = 0; least = 4 } in
      let numbered : call_no rows q ≡ c = numbered_call rows (place_in ms n) has.place no_one (omega (arith, i_is, rows_count)) low ∙ has.at_is no_one in
      let fits = safe_fits ms rows z q given.safe q_low in
      let allowed : allows (size_at z q) (goes_forwards c) (distance ms rows z c) ≡ true = ap (λ (x : Call). allows (size_at z q) (goes_forwards x) (distance ms rows z x)) (sym numbered) ∙ fits.1 in
      let size_q : size_at z q ≡ call_size (cuts_at laid n) r.offset = has.size ∙ sized in
      let is_small : (size_at z q ≡ 2) ⊎ (size_at z q ≡ 4) = small_size (size_at z q) (subst IsOneSize (sym has.size) (size_one rows z (place_in ms n) k given.ones)) (omega (arith, size_q, small)) in
      let most : distance ms rows z c ≤ reach (size_at z q) (goes_forwards c) = small_allows (size_at z q) (distance ms rows z c) (goes_forwards c) is_small allowed in
      let lies = target_lies tables b merged n k lands.section c.target lands.rest given.bound given.few n_low lands.plain lands.target in
      let alike = given.alike lands.section m lands.leader_is in
      let within = lies.within in
      let bits = has_bits tables b n k n_low k_low in
      let classes = class_some (input_at files b n).sh_type (input_at files b n).flags in
      let class : Class = classes.0 in
      let has_bytes = class_bits class (input_at files b n).sh_type (input_at files b n).flags classes.1 bits in
      let m_of = class_of files b pools words leaders few class n m (place_in ms n) (place_in ms m) i_is (i_in m m_low m_leads) (at n n_low n_leads) (at m m_low m_leads) near.group classes.1 in
      let file = file_at files (place_of files n).file in
      let s = section_at file (place_of files n).index in
      let whole = sound_of tables n n_low in
      let inside = whole.fits k no_reloc k_low in
      let end = end_is (contents_of file.bytes s) r (call_kind r.kind call).moves (whole.kinds k no_reloc k_low) in
      let wide = call_width r call in
      let size_of_n = size_is tables b n n_low (omega (arith, k_low)) in
      let o_in : c.offset + 8 ≤ (input_at files b n).size = omega (arith, lands.offset, inside, end, wide, size_of_n) in
      let n_start = start_aligned n n_low n_leads bits (omega (arith, o_in)) in
      let done = any_of n m n_low m_low n_leads m_leads class has_bytes classes.1 m_of near.group c lands.from lands.to (omega (arith, o_in)) (omega (arith, within, alike)) (omega (arith, o_in)) n_start in
      let far = far_by (size_at z q) (here m c.target) (here n c.offset) (distance ms rows z c) (goes_forwards c) is_small done.apart most in
      let align_n : (member_at ms (place_in ms n)).align ≡ (input_at files b n).align = align_of n n_low n_leads class classes.1 in
      let align_m : (member_at ms (place_in ms m)).align ≡ (input_at files b m).align = align_of m m_low m_leads class m_of in
      let two_n = near.one in
      let two_m = near.other in
      let even_n = align_even tables b pools merged words leaders laid sizes z given n n_low n_leads class has_bytes classes.1 (omega (arith, two_n, align_n)) in
      let even_m = align_even tables b pools merged words leaders laid sizes z given m m_low m_leads class has_bytes m_of (omega (arith, two_m, align_m)) in
      let n_even = even_at n n_low n_leads (multiple_even (start_at laid n) (input_at files b n).align even_n n_start) r.offset (call_even tables b pools merged words leaders laid sizes z given n n_low n_leads k sz_small) in
      let m_even = even_at m m_low m_leads (multiple_even (start_at laid m) (input_at files b m).align even_m done.m_start) c.target near.even in
      let leader_same = leader_is_of lands.section m lands.leader_is in
      let address : address_in leaders laid lands.section c.target ≡ here m c.target = address_by leaders laid lands.section c.target m leader_same in
      let o_is : here n c.offset ≡ here n r.offset = ap (here n) lands.offset in
      let size_reach : (t : Bool) → reach (size_at z q) t ≡ reach (call_size (cuts_at laid n) r.offset) t = λ t. ap (λ k2. reach k2 t) size_q in
      record {
        section = lands.section;
        offset = c.target;
        target = lands.target ∙ ap (targets.Section lands.section c.target) lies.none;
        size = subst (λ k2. (k2 ≡ 2) ⊎ (k2 ≡ 4)) size_q is_small;
        target_even = omega (arith, address, m_even);
        place_even = n_even;
        ahead = λ le. omega (arith, far.0 (omega (arith, le, address, o_is)), address, o_is, size_reach true);
        back = λ le. omega (arith, far.1 (omega (arith, le, address, o_is)), address, o_is, size_reach false);
      }
