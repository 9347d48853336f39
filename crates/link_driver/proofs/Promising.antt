-- The promises follow from the table of ends.
use Rattle.std.proofs.Common.{◌≡◌, ◌⊎◌, ℕ, List, [], ◌∷◌, length, length-append, Option, Some, None, IsSome, sym, ◌∙◌, ap, inl, inr, arith}
use Rattle.lk_depot.specs.Files.{Files}
use Rattle.lk_depot.specs.Store.{Store}
use Rattle.lk_depot.specs.Output.{Output}
use Rattle.lk_depot.specs.Loading.{AreContents, IsFirstLacking, FailedAt, name_at}
use Rattle.lk_depot.proofs.NameLists.{same_contents, not_lacking}
use Rattle.link_command.specs.Command.{CommandView, command_of_words}
use Rattle.link_driver.specs.Laws.{sources_for}
use Rattle.link_driver.specs.Link.{link}
use Rattle.link_driver.specs.Ends.{Accepts, Ends, links, finds_defect, refuses, cannot_read_input, cannot_write_output, cannot_write_map, cannot_say, lacks_memory}
use Rattle.link_driver.specs.Promises.{IsGiven, IsFaultless, Promises}
use Rattle.link_driver.proofs.Laws.{are_least, link_of_any}
use Rattle.link_driver.proofs.Sparing.{spares}
use Rattle.link_driver.proofs.Unwinding.{plans}

-- files that are seen have one list of contents
one_content : (files : Option Files) (names a b : List (List ℕ)) → IsSome files → AreContents files names a → AreContents files names b → a ≡ b
one_content None names a b told left right = cc
one_content (Some m) names a b told left right = same_contents m names a b left right

-- what is accepted is what is given
pub same_inputs : (words : List (List ℕ)) (before after : Store) (asked asked' : CommandView) (inputs inputs' : List (List ℕ))
    → Accepts (command_of_words words) before after asked inputs → IsGiven words before asked' inputs' → (asked ≡ asked') × (inputs ≡ inputs')
same_inputs words before after asked asked' inputs inputs' accepts given =
    let e : Some asked ≡ Some asked' = sym accepts.asks ∙ given.asks in
    let same : asked ≡ asked' = cc in
    let loaded : AreContents before.files asked'.inputs inputs = rw (ap (λ (a : CommandView). a.inputs) same) at accepts.loaded in
    (same, one_content before.files asked'.inputs inputs inputs' given.visible loaded given.inputs_are)

not_three : (s : ℕ) → s ≡ 3 → (s ≡ 1) ⊎ ((s ≡ 2) ⊎ (s ≡ 4)) → ⊥
not_three s is (inl h) = omega arith
not_three s is (inr (inl h)) = omega arith
not_three s is (inr (inr h)) = omega arith

not_zero : (s : ℕ) → s ≡ 0 → (s ≡ 1) ⊎ ((s ≡ 2) ⊎ (s ≡ 4)) → ⊥
not_zero s is (inl h) = omega arith
not_zero s is (inr (inl h)) = omega arith
not_zero s is (inr (inr h)) = omega arith

neither : (o : Option CommandView) (asked : CommandView) → o ≡ None → o ≡ Some asked → ⊥
neither o asked none some = cc

module _ (words : List (List ℕ)) (before after : Store) (say say' : Output) (status : ℕ) (line : List ℕ) where
  -- an end after all inputs were loaded
  record Ran (asked : CommandView) (inputs : List (List ℕ)) (found : ℕ) : Type 0 where
    accepts : Accepts (command_of_words words) before after asked inputs
    gives : (link (command_of_words words) inputs).status ≡ found

  -- what the given inputs link to is what the table speaks of
  linked_as : (asked asked' : CommandView) (inputs inputs' : List (List ℕ)) (found : ℕ) → Ran asked inputs found
      → IsGiven words before asked' inputs' → (link (Some asked') inputs').status ≡ found
  linked_as asked asked' inputs inputs' found ran given =
      let same = same_inputs words before after asked asked' inputs inputs' ran.accepts given in
      ap (λ i. (link (Some asked') i).status) (sym same.1) ∙ ap (λ o. (link o inputs).status) (sym given.asks) ∙ ran.gives

  refused_end : Ends (command_of_words words) before after say say' status line → command_of_words words ≡ None → (status ≡ 2) ⊎ (status ≡ 4)
  refused_end (links e) none = absurd (neither _ _ none e.accepts.asks)
  refused_end (finds_defect e) none = absurd (neither _ _ none e.accepts.asks)
  refused_end (refuses e) none = inl e.status_is
  refused_end (cannot_read_input e) none = absurd (neither _ _ none e.asks)
  refused_end (cannot_write_output e) none = absurd (neither _ _ none e.accepts.asks)
  refused_end (cannot_write_map e) none = absurd (neither _ _ none e.accepts.asks)
  refused_end (cannot_say e) none = absurd (neither _ _ none e.accepts.asks)
  refused_end (lacks_memory e) none = inr e.status_is

  only_refused_end : Ends (command_of_words words) before after say say' status line → status ≡ 2 → (command_of_words words ≡ None) × (after ≡ before)
  only_refused_end (links e) two = absurd (omega (arith, e.status_is))
  only_refused_end (finds_defect e) two = absurd (omega (arith, e.status_is))
  only_refused_end (refuses e) two = (e.refused, e.idle)
  only_refused_end (cannot_read_input e) two = absurd (omega (arith, e.status_is))
  only_refused_end (cannot_write_output e) two = absurd (omega (arith, e.status_is))
  only_refused_end (cannot_write_map e) two = absurd (omega (arith, e.status_is))
  only_refused_end (cannot_say e) two = absurd (omega (arith, e.status_is))
  only_refused_end (lacks_memory e) two = absurd (omega (arith, e.status_is))

  -- an end after a load that failed, or that found no file, of inputs that are given
  unread_end : (asked asked' : CommandView) (inputs : List (List ℕ)) (index : ℕ) → command_of_words words ≡ Some asked → IsGiven words before asked' inputs
      → after.unread ≡ before.unread
      → FailedAt before after asked.inputs index ⊎ (IsFirstLacking before.files asked.inputs index × (after.unread ≡ before.unread)) → ⊥
  unread_end asked asked' inputs index asks given kept (inl failed) =
      let e = ap length (sym kept ∙ failed.unread) in omega (arith, e, length-append before.unread (name_at asked.inputs index ∷ []))
  unread_end asked asked' inputs index asks given kept (inr lacking) =
      let e : Some asked ≡ Some asked' = sym asks ∙ given.asks in
      let same : asked ≡ asked' = cc in
      not_lacking before.files asked'.inputs inputs index given.inputs_are (rw (ap (λ (a : CommandView). a.inputs) same) at lacking.0)

  defective_end : Ends (command_of_words words) before after say say' status line → (asked : CommandView) (inputs : List (List ℕ)) → IsGiven words before asked inputs
      → after.unread ≡ before.unread → (link (Some asked) inputs).status ≡ 1 → (status ≡ 1) ⊎ (status ≡ 4)
  defective_end (links e) asked inputs given kept one =
      absurd (omega (arith, one, linked_as e.asked asked e.inputs inputs 0 (record { accepts = e.accepts; gives = e.sound }) given))
  defective_end (finds_defect e) asked inputs given kept one = inl e.status_is
  defective_end (refuses e) asked inputs given kept one = absurd (neither _ _ e.refused given.asks)
  defective_end (cannot_read_input e) asked inputs given kept one = absurd (unread_end e.asked asked inputs e.index e.asks given kept e.cause)
  defective_end (cannot_write_output e) asked inputs given kept one =
      absurd (omega (arith, one, linked_as e.asked asked e.inputs inputs 0 (record { accepts = e.accepts; gives = e.sound }) given))
  defective_end (cannot_write_map e) asked inputs given kept one =
      absurd (omega (arith, one, linked_as e.asked asked e.inputs inputs 0 (record { accepts = e.accepts; gives = e.sound }) given))
  defective_end (cannot_say e) asked inputs given kept one =
      absurd (omega (arith, one, linked_as e.asked asked e.inputs inputs 0 (record { accepts = e.accepts; gives = e.sound }) given))
  defective_end (lacks_memory e) asked inputs given kept one = inr e.status_is

  only_defective_end : Ends (command_of_words words) before after say say' status line → status ≡ 1 → (asked : CommandView) (inputs : List (List ℕ))
      → IsGiven words before asked inputs → ((link (Some asked) inputs).status ≡ 1) × (after.unread ≡ before.unread)
  only_defective_end (links e) one asked inputs given = absurd (omega (arith, e.status_is))
  only_defective_end (finds_defect e) one asked inputs given =
      (linked_as e.asked asked e.inputs inputs 1 (record { accepts = e.accepts; gives = e.defective }) given, e.accepts.unread)
  only_defective_end (refuses e) one asked inputs given = absurd (omega (arith, e.status_is))
  only_defective_end (cannot_read_input e) one asked inputs given = absurd (omega (arith, e.status_is))
  only_defective_end (cannot_write_output e) one asked inputs given = absurd (omega (arith, e.status_is))
  only_defective_end (cannot_write_map e) one asked inputs given = absurd (omega (arith, e.status_is))
  only_defective_end (cannot_say e) one asked inputs given = absurd (omega (arith, e.status_is))
  only_defective_end (lacks_memory e) one asked inputs given = absurd (omega (arith, e.status_is))

  sound_end : Ends (command_of_words words) before after say say' status line → (asked : CommandView) (inputs : List (List ℕ)) → IsGiven words before asked inputs
      → IsFaultless before after say say' → (link (Some asked) inputs).status ≡ 0 → (status ≡ 0) ⊎ (status ≡ 4)
  sound_end (links e) asked inputs given calm zero_is = inl e.status_is
  sound_end (finds_defect e) asked inputs given calm zero_is =
      absurd (omega (arith, zero_is, linked_as e.asked asked e.inputs inputs 1 (record { accepts = e.accepts; gives = e.defective }) given))
  sound_end (refuses e) asked inputs given calm zero_is = absurd (neither _ _ e.refused given.asks)
  sound_end (cannot_read_input e) asked inputs given calm zero_is = by e.cause
    where
      by : FailedAt before after e.asked.inputs e.index ⊎ (IsFirstLacking before.files e.asked.inputs e.index × (after.unread ≡ before.unread))
          → (status ≡ 0) ⊎ (status ≡ 4)
      by (inl failed) = absurd (calm.depot_kept failed.rose)
      by (inr lacking) = absurd (unread_end e.asked asked inputs e.index e.asks given lacking.1 (inr lacking))
  sound_end (cannot_write_output e) asked inputs given calm zero_is = absurd (calm.depot_kept e.faults)
  sound_end (cannot_write_map e) asked inputs given calm zero_is = absurd (calm.depot_kept e.faults)
  sound_end (cannot_say e) asked inputs given calm zero_is = absurd (calm.say_kept e.faults)
  sound_end (lacks_memory e) asked inputs given calm zero_is = inr e.status_is

  only_sound_end : Ends (command_of_words words) before after say say' status line → status ≡ 0 → (asked : CommandView) (inputs : List (List ℕ))
      → IsGiven words before asked inputs → (link (Some asked) inputs).status ≡ 0
  only_sound_end (links e) zero_is asked inputs given =
      linked_as e.asked asked e.inputs inputs 0 (record { accepts = e.accepts; gives = e.sound }) given
  only_sound_end (finds_defect e) zero_is asked inputs given = absurd (omega (arith, e.status_is))
  only_sound_end (refuses e) zero_is asked inputs given = absurd (omega (arith, e.status_is))
  only_sound_end (cannot_read_input e) zero_is asked inputs given = absurd (omega (arith, e.status_is))
  only_sound_end (cannot_write_output e) zero_is asked inputs given = absurd (omega (arith, e.status_is))
  only_sound_end (cannot_write_map e) zero_is asked inputs given = absurd (omega (arith, e.status_is))
  only_sound_end (cannot_say e) zero_is asked inputs given = absurd (omega (arith, e.status_is))
  only_sound_end (lacks_memory e) zero_is asked inputs given = absurd (omega (arith, e.status_is))

  -- no end has loaded all inputs where one is missing
  not_missing : (asked asked' : CommandView) (inputs : List (List ℕ)) (index : ℕ) → Accepts (command_of_words words) before after asked inputs
      → command_of_words words ≡ Some asked' → IsFirstLacking before.files asked'.inputs index → ⊥
  not_missing asked asked' inputs index accepts asks lacking =
      let e : Some asked' ≡ Some asked = sym asks ∙ accepts.asks in
      let same : asked' ≡ asked = cc in
      not_lacking before.files asked.inputs inputs index accepts.loaded (rw (ap (λ (a : CommandView). a.inputs) same) at lacking)

  missing_end : Ends (command_of_words words) before after say say' status line → (asked : CommandView) (index : ℕ) → command_of_words words ≡ Some asked
      → IsFirstLacking before.files asked.inputs index → (status ≡ 3) ⊎ (status ≡ 4)
  missing_end (links e) asked index asks lacking = absurd (not_missing e.asked asked e.inputs index e.accepts asks lacking)
  missing_end (finds_defect e) asked index asks lacking = absurd (not_missing e.asked asked e.inputs index e.accepts asks lacking)
  missing_end (refuses e) asked index asks lacking = absurd (neither _ _ e.refused asks)
  missing_end (cannot_read_input e) asked index asks lacking = inl e.status_is
  missing_end (cannot_write_output e) asked index asks lacking = inl e.status_is
  missing_end (cannot_write_map e) asked index asks lacking = inl e.status_is
  missing_end (cannot_say e) asked index asks lacking = inl e.status_is
  missing_end (lacks_memory e) asked index asks lacking = inr e.status_is

  begun_end : Ends (command_of_words words) before after say say' status line → (status ≡ 1) ⊎ ((status ≡ 2) ⊎ (status ≡ 4)) → after.begun ≡ before.begun
  begun_end (links e) ends = absurd (not_zero status e.status_is ends)
  begun_end (finds_defect e) ends = e.untouched.begun
  begun_end (refuses e) ends = ap (λ (s : Store). s.begun) e.idle
  begun_end (cannot_read_input e) ends = e.untouched.begun
  begun_end (cannot_write_output e) ends = absurd (not_three status e.status_is ends)
  begun_end (cannot_write_map e) ends = absurd (not_three status e.status_is ends)
  begun_end (cannot_say e) ends = absurd (not_three status e.status_is ends)
  begun_end (lacks_memory e) ends = e.untouched.begun

  pub promises_hold : Ends (command_of_words words) before after say say' status line → Promises words before after say say' status
  promises_hold ends = record {
    refused = refused_end ends;
    only_refused = only_refused_end ends;
    defective = defective_end ends;
    only_defective = only_defective_end ends;
    sound = sound_end ends;
    only_sound = only_sound_end ends;
    missing = missing_end ends;
    least = λ asked given few. are_least asked (sources_for asked given) few;
    spared = λ asked given. spares asked (sources_for asked given);
    unwound = λ asked given. plans asked (sources_for asked given);
    any_workers = link_of_any;
    begun = begun_end ends;
  }
