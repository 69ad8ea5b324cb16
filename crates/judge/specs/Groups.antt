-- Group values.
use Rattle.std.specs.Prelude.{ℕ, ◌≡◌, ◌/◌, ◌%◌, ◌<◌, List, Bool, true, false, cond, ◌&&◌, ltb, eqb, Option, IfNone, IfSome}
use Rattle.octets.specs.Bytes.{num_at}
use Rattle.sheet.specs.Kind.{groups}
use Rattle.sheet.specs.Layout.{◌of◌}
use Rattle.sheet.specs.Group as group
use Rattle.sheet.specs.Entries.{count, entry}
use Rattle.sheet.specs.Lookup.{index_of}
use Rattle.sheet.specs.Places.{IsGroup}
use Rattle.sheet.specs.declared.GroupEntry.{GroupEntry}
use Rattle.pdu.specs.declared.Pdu.TheVariants.{GroupValueResponse}
use Rattle.judge.specs.declared.groups.Flag.{Flag}
use Rattle.judge.specs.declared.groups.Flag.TheVariants as flag
use Rattle.judge.specs.declared.Store.TheVariants as store
use Rattle.judge.specs.declared.Answer.TheVariants as answer
use Rattle.judge.specs.declared.Decision.{Decision}
use Rattle.judge.specs.Decisions.{refused, answered, stored}

-- the flags of a group object
abbrev pub read : ℕ
read = 1

abbrev pub write : ℕ
write = 2

abbrev pub response : ℕ
response = 4

abbrev pub flag_of : Flag → ℕ
flag_of flag.Read = read
flag_of flag.Write = write
flag_of flag.Response = response

-- flag w is among f
abbrev pub has_flag : ℕ → ℕ → Bool
has_flag w f = eqb (f / w % 2) 1

-- the value of a group object of length code c whose body starts at o: six bits in the PDU, or the body after it
unfoldable pub value_of : List ℕ → ℕ → ℕ → Decision
value_of s c o =
    cond (eqb c 0) (answered (answer.Plain (GroupValueResponse (num_at s o 1))))
    (answered (answer.Sheet (GroupValueResponse 0) o c))

-- a new value: six bits v, or d bytes of data; 10 where that doesn't suit the length code
unfoldable pub put_value : ℕ → ℕ → ℕ → ℕ → Decision
put_value c o v d =
    cond (eqb d c) (cond (eqb c 0) (stored (store.Number o 1 v)) (stored (store.Data 0 o))) (refused 10)

-- the flags of group object i
unfoldable pub flags_at : List ℕ → ℕ → ℕ
flags_at s i = group.flags of entry s groups i

-- the group object with an address, its entry found, has flag w
pub record FlaggedAt (w : ℕ) (s : List ℕ) (address : ℕ) (e : GroupEntry) : Type 0 where
  pub there : index_of s groups address < count s groups
  pub is : IsGroup s (index_of s groups address) e
  pub has : has_flag w e.flags ≡ true

-- r is that entry, or there is none with the address, or none that has the flag
pub record Flagged (w : ℕ) (s : List ℕ) (address : ℕ) (r : Option GroupEntry) : Type 0 where
  pub none : IfNone r ((ltb (index_of s groups address) (count s groups) && has_flag w (flags_at s (index_of s groups address))) ≡ false)
  pub some : IfSome r (FlaggedAt w s address)

unfoldable pub group_read_of : List ℕ → ℕ → Decision
group_read_of s address =
    let i = index_of s groups address in
    cond (ltb i (count s groups))
    (cond (has_flag read (flags_at s i)) (value_of s (group.code of entry s groups i) (group.offset of entry s groups i)) (refused 2))
    (refused 2)

-- GroupValue_Write and GroupValue_Response, which ask for different flags
unfoldable pub group_put_of : ℕ → List ℕ → ℕ → ℕ → ℕ → Decision
group_put_of w s address v d =
    let i = index_of s groups address in
    cond (ltb i (count s groups))
    (cond (has_flag w (flags_at s i)) (put_value (group.code of entry s groups i) (group.offset of entry s groups i) v d) (refused 2))
    (refused 2)
