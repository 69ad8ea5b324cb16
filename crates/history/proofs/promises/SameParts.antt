-- THE PARTS OF THE SHEET THAT A REQUEST NAMES tell a host neither what the other tool sent nor a byte that may not be read: judging names them, and it reads no body and no session but the one met.
use Rattle.octets.proofs.Kit.{ℕ, ◌≤◌, ◌≡◌, refl, sym, ap, ◌∙◌, false, List, length}
use Rattle.pdu.specs.Read.{read_pdu}
use Rattle.judge.specs.Judge.{data_in}
use Rattle.device.{specs.{Events.State, Sessions.session_for, Changed.{changes_of, changed_of, Requested}, declared.{Sessions.Sessions, Made.Made}}, proofs.promises.NoBody.no_body_lem}
use Rattle.events.specs.Events.{Event, request}
use Rattle.history.specs.{History.First, Keeps.{state_after, Begins}, Isolation.{is_of, Beside}, Rightful.ours, Secret.{Hide, NoneBelow, AllAlike}, Calls.Follows}
use Rattle.history.proofs.{apart.Near.{Near, near, met_alike}, promises.{NothingShown.hidden_bodies, Unlearned.unlearned_calls}}

-- on sheets that hide q
pub hidden_parts :
    {q : ℕ} {s s' : List ℕ} → Hide q s s' → (room : ℕ) (u : Sessions) (mode c g : ℕ) (a : List ℕ) →
    changed_of room s' u mode c g a ≡ changed_of room s u mode c g a
unfolding changed_of
hidden_parts {s = s} {s' = s'} b room u mode c g a =
    ap (changes_of (data_in (read_pdu a) a)) (sym (no_body_lem room s s' (session_for u mode c) mode g a (hidden_bodies b)))

-- on states that only the session of o tells apart
near_parts :
    (o : ℕ) {x x' : State} → Near o x x' → (room mode c g : ℕ) (a out : List ℕ) → is_of o (request mode c g a out) ≡ false →
    changed_of room x.sheet x.sessions mode c g a ≡ changed_of room x'.sheet x'.sessions mode c g a
unfolding changed_of
near_parts o n room mode c g a out e = rw (n.sheet, met_alike o n mode c e) refl

-- TWO TOOLS AT ONCE: after two histories that differ in what the other tool may have sent alone, a request that is not the other's names the same parts
pub isolated_parts :
    (f : First) (o : ℕ) {h h' : List Event} → Beside ours f o h h' → {x x' : State} → Follows f h x → Follows f h' x' →
    (mode c g : ℕ) (a out out' : List ℕ) → is_of o (request mode c g a out) ≡ false → length out ≡ length out' →
    {r r' : Made} {s s' u u' : List ℕ} → Requested x.sessions mode c g a x.sheet out r s u → Requested x'.sessions mode c g a x'.sheet out' r' s' u' →
    r.changed ≡ r'.changed
isolated_parts f o {h} {h'} b k k' mode c g a out out' e l d d' =
    let n : Near o (state_after ours f h) (state_after ours f h') = near o f h h' b in
    d.changed ∙ rw (k.state, k'.state, ← l) (near_parts o n (length out) mode c g a out e) ∙ sym d'.changed

-- NOTHING IS LEARNED: after the same events on two sheets that hide q, the same request names the same parts, whatever its level
pub unlearned_parts :
    (q : ℕ) → q ≤ 3 → {f f' : First} → Begins f → f'.sessions ≡ f.sessions → Hide q f.sheet f'.sheet →
    {h h' : List Event} → AllAlike h h' → {x x' : State} → Follows f h x → Follows f' h' x' → NoneBelow q f h →
    (mode c g : ℕ) (a out out' : List ℕ) → length out ≡ length out' →
    {r r' : Made} {s s' u u' : List ℕ} → Requested x.sessions mode c g a x.sheet out r s u → Requested x'.sessions mode c g a x'.sheet out' r' s' u' →
    r'.changed ≡ r.changed
unlearned_parts q few b s v w {x = x} {x' = x'} k k' n mode c g a out out' l d d' =
    let z = unlearned_calls q few b s v w k k' n in
    d'.changed
    ∙ rw (z.0, ← l) (hidden_parts z.1 (length out) x.sessions mode c g a)
    ∙ sym d.changed
