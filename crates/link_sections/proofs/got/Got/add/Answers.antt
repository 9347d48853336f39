use Rattle.std.proofs.Common.{◌≡◌, ◌<◌, ap, sym, subst, ◌∙◌, List, [], ◌∷◌, ◌++◌, arith, false}
use Rattle.std.specs.Prelude.{is_some}
use Rattle.link_sections.specs.declared.got.GotEntry.{GotEntry}
use Rattle.link_sections.specs.GotEntries.{AreNumbered, AreUnlike, entry_of, eq_keys, word_count, word_of}
use Rattle.std.specs.HashMap.{get}
use Rattle.std.specs.List.{All}
use Rattle.link_sections.proofs.GotSteps.{count_more, few_words, found_more, low_more, numbered_more, set_alike, unlike_more, words_most}
use Rattle.link_sections.proofs.got.Got.add.Goals as goal

pub overflow_add-self : goal.overflow_add-self
overflow_add-self c =
    let got = c.args.self.now in
    omega (arith, got.counted, few_words 2147483648 got.entries.items got.unlike got.low, c.words_of.ensures, words_most c.args.usage)

pub invariant_of-self-2 : goal.invariant_of-self-2
invariant_of-self-2 c =
    let got = c.args.self.now in
    let es = got.entries.items in
    let e : GotEntry = record { key = c.args.key; usage = c.args.usage; file = c.args.file; symbol = c.args.symbol; word = got.words } in
    let pushed : c.push.new.self.items ≡ es ++ e ∷ [] = c.in_ok-push.ensures.items ∙ ap (λ l. l ++ e ∷ []) c.in_ok-reserve.ensures.items in
    let none : is_some (entry_of es e.key e.usage) ≡ false = sym c.has.ensures ∙ c.if-has.false in
    record {
      numbered = subst AreNumbered (sym pushed) (numbered_more es e got.numbered got.counted);
      unlike = subst AreUnlike (sym pushed) (unlike_more es e got.unlike none);
      low = subst (λ (l : List GotEntry). All (λ (x : GotEntry). x.key < 2147483648) l) (sym pushed) (low_more es e 2147483648 got.low c.requires);
      found = λ key usage.
          let P : List GotEntry → Type 0 = λ l. get eq_keys c.insert.new.self (key, usage) ≡ word_of l key usage in
          subst P (sym pushed) (found_more es e key usage (get eq_keys got.firsts (key, usage)) (get eq_keys c.insert.new.self (key, usage)) none (got.found key usage) (set_alike got.firsts c.insert.new.self (c.args.key, c.args.usage) (key, usage) got.words (c.in_ok-insert.ensures.updates.0 (key, usage))));
      counted = omega (arith, got.counted, c.words_of.ensures, count_more es e, ap word_count pushed);
    }
