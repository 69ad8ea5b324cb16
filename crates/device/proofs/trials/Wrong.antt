-- WRONG DEVICES: trials, to hold against demand 2.
use Rattle.octets.proofs.Kit.{ℕ, ◌+◌, ◌-◌, List, [], ◌∷◌, false, cond, ltb, leb}
use Rattle.sheet.specs.{Kind.properties, Layout.◌of◌, Entries.{count, entry}}
use Rattle.sheet.specs.Property as property
use Rattle.pdu.specs.{Item.{the, Object, Id}, Pdus.values_of, Read.read_pdu}
use Rattle.judge.specs.{declared.{Store.Store, Answer.Answer}, Properties.property_at, Judge.{judge_of, data_in}}
use Rattle.judge.specs.declared.Store.TheVariants as store
use Rattle.judge.specs.declared.Answer.TheVariants as answer
use Rattle.device.specs.{Step.{Step, step_by}, Asked.{Asked, quiet}, Demand2.done, Marked.{Case, at}}

-- it refuses everything, by one number
unfoldable pub refuses_all : ℕ → Asked → Step
refuses_all n x = quiet x n

-- it sends one answer, whatever is asked
unfoldable pub fixed_answer : List ℕ → Asked → Step
fixed_answer b x = record { outcome = 0; answer = b; session = x.session; sheet = x.sheet; restarts = false }

-- it does all as ours does, but shows a property's maximum where its count is asked for: it invents the count that it answers
unfoldable pub inflated : List ℕ → Answer → Answer
inflated s answer.Silence = answer.Silence
inflated s (answer.Plain p) = answer.Plain p
inflated s (answer.Number p w c) =
    let i = property_at s (the (values_of p) Object) (the (values_of p) Id) in
    answer.Number p w (cond (ltb i (count s properties)) (property.maximum of entry s properties i) c)
inflated s (answer.Sheet p at n) = answer.Sheet p at n
inflated s (answer.Echo p) = answer.Echo p

unfoldable pub invents_count : Asked → Step
invents_count x =
    let k = judge_of x.room x.sheet x.session x.mode x.group x.apdu in
    step_by x.sheet x.session (data_in (read_pdu x.apdu) x.apdu)
    record { outcome = k.outcome; first = k.first; second = k.second; turn = k.turn; answer = inflated x.sheet k.answer }

-- it does all as ours does, but stores one more than a property's new count, the number in a second run: it invents the count that it stores
unfoldable pub raised : Store → Store
raised store.Nothing = store.Nothing
raised (store.Number at w c) = store.Number at w (c + 1)
raised (store.Data zeros at) = store.Data zeros at
raised (store.Bits at n) = store.Bits at n
raised (store.Fill at n b) = store.Fill at n b

unfoldable pub invents_stored : Asked → Step
invents_stored x =
    let k = judge_of x.room x.sheet x.session x.mode x.group x.apdu in
    step_by x.sheet x.session (data_in (read_pdu x.apdu) x.apdu)
    record { outcome = k.outcome; first = k.first; second = raised k.second; turn = k.turn; answer = k.answer }

-- the same request, the session's level read by f
abbrev pub acting : (ℕ → ℕ) → Asked → Asked
acting f x =
    record {
      room = x.room;
      sheet = x.sheet;
      session = record { opened = x.session.opened; level = f x.session.level };
      mode = x.mode;
      group = x.group;
      apdu = x.apdu;
    }

-- THE ACCIDENT: it answers as ours does, a refusal too, and stores what a session of level 0 may store
unfoldable pub stores_denied : Asked → Step
stores_denied x =
    record {
      outcome = (done x).outcome;
      answer = (done x).answer;
      session = (done x).session;
      sheet = (done (acting (λ l. 0) x)).sheet;
      restarts = (done x).restarts;
    }

-- it does all as ours does at another level; the session becomes what ours makes of it
unfoldable pub acts_at : (ℕ → ℕ) → Asked → Step
acts_at f x =
    let r = done (acting f x) in
    record { outcome = r.outcome; answer = r.answer; session = (done x).session; sheet = r.sheet; restarts = r.restarts }

-- it has the levels the wrong way round: 3 has most rights
abbrev pub levels_turned : Asked → Step
levels_turned = acts_at (λ l. 3 - l)

-- it lets level 1 do what level 0 may: set key 0
abbrev pub key_of_another : Asked → Step
key_of_another = acts_at (λ l. cond (leb l 1) 0 l)

-- what refutes them: a write of the protected element without a key; key 0 written at level 1
abbrev pub keyless_write : Case
keyless_write =
    at 3 (0x03 ∷ 0xD7 ∷ 0x01 ∷ 0x33 ∷ 0x10 ∷ 0x01 ∷ 0x03 ∷ 0x84 ∷ []) (0x03 ∷ 0xD6 ∷ 0x01 ∷ 0x33 ∷ 0x00 ∷ 0x01 ∷ []) 11

abbrev pub write_key0 : Case
write_key0 = at 1 (0x03 ∷ 0xD3 ∷ 0x00 ∷ 0x33 ∷ 0x33 ∷ 0x33 ∷ 0x33 ∷ []) (0x03 ∷ 0xD4 ∷ 0xFF ∷ []) 11
