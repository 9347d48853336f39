-- What asks on words come to, in terms of names: words of unequal names are unequal.
use Rattle.std.proofs.Common.{◌≡◌, ◌≢◌, ℕ, ◌<◌, ◌≤◌, max, Bool, true, false, if◌then◌else◌, List, [], ◌∷◌, length, map, All, refl, sym, ap, ◌∙◌, ⊎_elim, arith}
use Rattle.std.specs.Str.{bytes_eq}
use Rattle.std.proofs.lemmas.List.{get_or-set_same, get_or-set_other, length-set}
use Rattle.std.proofs.lemmas.List.Elements.{All-head, All-tail}
use Rattle.std.proofs.lemmas.Bool.{cond-true, cond-false, cases_Bool}
use Rattle.std.proofs.lemmas.Slice.Eq.{bytes_eq-Decides}
use Rattle.lk_tables.specs.Binding.{Demand, greatest_size, greatest_align}
use Rattle.sym_resolve.specs.declared.rooms.Room.{Room}
use Rattle.name_numbers.proofs.LeastClaims.{Tells, apart}
use Rattle.sym_resolve.specs.Asks.{Ask, ask, room, no_room, room_at, widened, after_asks}

abbrev ask_of : (List ℕ → ℕ) → Demand → Ask
ask_of W d = ask (W d.name) d.size d.align

-- the room of a word
pub record HasRoom (rooms : List Room) (word size align : ℕ) : Type 0 where
  pub size_is : (room_at rooms word).size ≡ size
  pub align_is : (room_at rooms word).align ≡ align

widened_own : (rooms : List Room) (a : Ask) (word size align : ℕ) → word < length rooms → a.word ≡ word → HasRoom rooms word size align → HasRoom (widened rooms a) word (max size a.size) (max align a.align)
widened_own rooms a word size align lt same has =
    let new : Room = room (max (room_at rooms a.word).size a.size) (max (room_at rooms a.word).align a.align) in
    let at : room_at (widened rooms a) word ≡ new = ap (room_at (widened rooms a)) (sym same) ∙ get_or-set_same rooms a.word new no_room (omega arith) in
    let sized : (room_at rooms a.word).size ≡ size = ap (λ k. (room_at rooms k).size) same ∙ has.size_is in
    let aligned : (room_at rooms a.word).align ≡ align = ap (λ k. (room_at rooms k).align) same ∙ has.align_is in
    record {
      size_is = ap (λ (r : Room). r.size) at ∙ ap (λ k. max k a.size) sized;
      align_is = ap (λ (r : Room). r.align) at ∙ ap (λ k. max k a.align) aligned;
    }

widened_other : (rooms : List Room) (a : Ask) (word size align : ℕ) → word ≢ a.word → HasRoom rooms word size align → HasRoom (widened rooms a) word size align
widened_other rooms a word size align ne has =
    let at : room_at (widened rooms a) word ≡ room_at rooms word = get_or-set_other rooms a.word word _ no_room ne in
    record { size_is = ap (λ (r : Room). r.size) at ∙ has.size_is; align_is = ap (λ (r : Room). r.align) at ∙ has.align_is }

ask_step : (W : List ℕ → ℕ) (text : List ℕ) (d : Demand) (rooms : List Room) (size align : ℕ) → W text < length rooms → Tells W text d.name → HasRoom rooms (W text) size align
    → HasRoom (widened rooms (ask_of W d)) (W text) (if bytes_eq d.name text then max size d.size else size) (if bytes_eq d.name text then max align d.align else align)
ask_step W text d rooms size align lt tells has = ⊎_elim
    (λ (eq : bytes_eq d.name text ≡ true).
    let s = bytes_eq-Decides d.name text in
    let own = widened_own rooms (ask_of W d) (W text) size align lt (ap W (s.0 eq)) has in
    record {
      size_is = own.size_is ∙ sym (cond-true (bytes_eq d.name text) (max size d.size) size eq);
      align_is = own.align_is ∙ sym (cond-true (bytes_eq d.name text) (max align d.align) align eq);
    })
    (λ (ne : bytes_eq d.name text ≡ false).
    let other = widened_other rooms (ask_of W d) (W text) size align (apart W text d.name tells ne) has in
    record {
      size_is = other.size_is ∙ sym (cond-false (bytes_eq d.name text) (max size d.size) size ne);
      align_is = other.align_is ∙ sym (cond-false (bytes_eq d.name text) (max align d.align) align ne);
    })
    (cases_Bool (bytes_eq d.name text))

max_if : (b : Bool) (have own later : ℕ) → max (if b then max have own else have) later ≡ max have (if b then max own later else later)
max_if true have own later = omega arith
max_if false have own later = refl

at_least : (b : Bool) (have own : ℕ) → 1 ≤ have → 1 ≤ (if b then max have own else have)
at_least true have own some = omega arith
at_least false have own some = some

-- the room of a text's word comes to the greatest that is asked for the text
pub after_greatest : (W : List ℕ → ℕ) (text : List ℕ) (ds : List Demand) (rooms : List Room) (size align : ℕ) → W text < length rooms → All (λ d. Tells W text d.name) ds → 1 ≤ align → HasRoom rooms (W text) size align
    → HasRoom (after_asks rooms (map (λ d. ask (W d.name) d.size d.align) ds)) (W text) (max size (greatest_size text ds)) (max align (greatest_align text ds))
unfolding greatest_size greatest_align
after_greatest W text [] rooms size align lt tells some has = record { size_is = omega (arith, has.size_is); align_is = omega (arith, has.align_is) }
after_greatest W text (d ∷ ds) rooms size align lt tells some has =
    let step = ask_step W text d rooms size align lt (All-head (λ (x : Demand). Tells W text x.name) d ds tells) has in
    let b = bytes_eq d.name text in
    let later = after_greatest W text ds (widened rooms (ask_of W d)) (if b then max size d.size else size) (if b then max align d.align else align)
    (omega (arith, length-set rooms (W d.name) (room (max (room_at rooms (W d.name)).size d.size) (max (room_at rooms (W d.name)).align d.align))))
    (All-tail (λ (x : Demand). Tells W text x.name) d ds tells) (at_least b align d.align some) step in
    record {
      size_is = later.size_is ∙ max_if b size d.size (greatest_size text ds);
      align_is = later.align_is ∙ max_if b align d.align (greatest_align text ds);
    }
