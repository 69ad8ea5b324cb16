-- DEMANDS 1 AND 2 of a call: of what `device::request` gives back and leaves in the slices lent to it.
use Rattle.octets.proofs.Kit.{ℕ, ◌+◌, ◌≤◌, ◌<◌, ◌≡◌, sym, ap, subst, ◌∙◌, List, [], length, get_or, take, dec_lt, arith}
use Rattle.octets.{specs.Splice.splice, proofs.Splices.{splice_none, splice_above, length_splice, splice_read}}
use Rattle.judge.specs.declared.Session.{Session}
use Rattle.device.specs.{Step.{Step, step_of}, Asked.no_room, Sessions.session_for, Events.{State, Effect, requesting, request_of, Did, Called}, Due.{asked, RequestDue}, Replies.Denial}
use Rattle.device.specs.{Demand1.{OneOf, Leaves}, Demand2.effect_seen, declared.{Sessions.Sessions, Done.Done}}
use Rattle.device.proofs.{due.Stepped.step_refused, promises.Demand1.{one_of, untouched, runs_on, silent, denial, at_most_16}, leaves.Connections.own_stays}
use Rattle.device.proofs.promises.Dues.{request_due, request_only}

module _ (sessions : Sessions) (mode c group : ℕ) (apdu sheet answer : List ℕ) where
  abbrev x : State
  x = record { sessions = sessions; sheet = sheet }

  abbrev session : Session
  session = session_for sessions mode c

  abbrev step : Step
  step = step_of (length answer) sheet session mode group apdu

  abbrev effect : Effect
  effect = requesting x mode c group apdu answer

  -- an answer fits into the buffer
  fits : 0 + length step.answer ≤ length answer
  fits = go (dec_lt (length answer) 16)
    where
      none : length answer < 16 → step.answer ≡ []
      none h = sym (ap (λ (r : Step). r.answer) (step_refused (asked x mode c group apdu answer) (no_room h)))

      go : Dec (length answer < 16) → 0 + length step.answer ≤ length answer
      go (yes h) = omega (arith, ap length (none h))
      go (no h) = omega (arith, at_most_16 (length answer) sheet session mode group apdu)

  -- 2 to 12 leave both sessions
  stay : 2 ≤ step.outcome → effect.sessions ≡ sessions
  unfolding request_of
  stay h =
      rw (runs_on (length answer) sheet session mode group apdu h)
      (rw (untouched (length answer) sheet session mode group apdu h).1 (own_stays sessions mode c))

  module _ (r : Done) (sheet' answer' : List ℕ) (call : Called sessions mode c group apdu sheet answer r sheet' answer') where
    did : Did effect r answer sheet' answer'
    did = call.did

    is_outcome : r.outcome ≡ step.outcome
    unfolding request_of
    is_outcome = did.outcome

    is_count_lem : r.count ≡ length step.answer
    unfolding request_of
    is_count_lem = did.count

    is_answer : answer' ≡ splice answer 0 step.answer
    unfolding request_of
    is_answer = did.answer

    is_sheet : sheet' ≡ step.sheet
    unfolding request_of
    is_sheet = did.sheet

    -- in front of the buffer stands the step's answer
    front : take r.count answer' ≡ step.answer
    front =
        ap (λ (n : ℕ). take n answer') is_count_lem
        ∙ ap (take (length step.answer)) is_answer
        ∙ splice_read answer 0 step.answer fits

    seen : effect_seen r sheet' answer' ≡ effect
    unfolding request_of
    seen =
        ap (λ (n : ℕ). record { outcome = n; answer = take r.count answer'; sessions = r.sessions; sheet = sheet' }) is_outcome
        ∙ ap (λ (b : List ℕ). record { outcome = step.outcome; answer = b; sessions = r.sessions; sheet = sheet' }) front
        ∙ ap (λ (q : Sessions). record { outcome = step.outcome; answer = step.answer; sessions = q; sheet = sheet' }) did.sessions
        ∙ ap (λ (s : List ℕ). record { outcome = step.outcome; answer = step.answer; sessions = effect.sessions; sheet = s }) is_sheet

    quiet : 1 ≤ r.outcome → (r.outcome ≡ 11 → ⊥) → step.answer ≡ []
    quiet h n = silent (length answer) sheet session mode group apdu (omega (arith, is_outcome)) (λ z. n (is_outcome ∙ z))

    -- DEMAND 1 OF A CALL
    pub call_leaves : Leaves sessions apdu sheet answer r sheet' answer'
    call_leaves =
        record {
          outcome = subst OneOf (sym is_outcome) (one_of (length answer) sheet session mode group apdu);
          kept =
              λ h.
              let m : 2 ≤ step.outcome = omega (arith, is_outcome) in
              (is_sheet ∙ (untouched (length answer) sheet session mode group apdu m).0, did.sessions ∙ stay m);
          silent = λ h n. (is_count_lem ∙ ap length (quiet h n), is_answer ∙ ap (splice answer 0) (quiet h n) ∙ splice_none answer 0);
          denial =
              λ h. subst (Denial apdu) (sym front) (denial (length answer) sheet session mode group apdu (sym is_outcome ∙ h));
          most = omega (arith, is_count_lem, at_most_16 (length answer) sheet session mode group apdu);
          rest =
              λ i h.
              ap (λ (l : List ℕ). get_or l i 0) is_answer ∙ splice_above answer 0 step.answer fits i (omega (arith, is_count_lem));
          long = ap length is_answer ∙ length_splice answer 0 step.answer fits;
        }

    -- DEMAND 2 OF A CALL: WHAT IT DID IS WHAT IS DUE
    pub call_due : RequestDue mode c group apdu answer x (effect_seen r sheet' answer')
    call_due = subst (RequestDue mode c group apdu answer x) (sym seen) (request_due x mode c group apdu answer call.sheet_bytes call.apdu_bytes)

    -- AND NOTHING ELSE IS DUE
    pub call_only : (y : Effect) → RequestDue mode c group apdu answer x y → y ≡ effect_seen r sheet' answer'
    call_only y h = request_only x mode c group apdu answer call.sheet_bytes call.apdu_bytes y h ∙ sym seen
