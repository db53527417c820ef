-- The cases that document 01 marks by § ("Worked sessions"), in its order, and those of #102, #101 and #104 of document
-- 02. That each is so is one theorem, in proofs/Theorem.antt.
use Rattle.std.specs.Prelude.{List, [], ◌∷◌}
use Prim.Native.String.{String}
use Rattle.sessions.specs.Cases.{Case, prints, prints_in, tracks, implied, not_implied, anything, sum, constant, signed_constant, variables}

-- the files of the worked sessions: "old.csv, records split by spaces here", which end in CRLF
abbrev pub old : String
old = "6,5,5,0,0,0\r\n0,1,0,1,0,5\r\n1,2,18,0,0,100\r\n1,3,21,0,0,100\r\n3,5,20,1,0,50\r\n3,4,19,1,0,50\r\n"

-- "the same with `0,1,0,1,0,6`"
abbrev pub amended : String
amended = "6,5,5,0,0,0\r\n0,1,0,1,0,6\r\n1,2,18,0,0,100\r\n1,3,21,0,0,100\r\n3,5,20,1,0,50\r\n3,4,19,1,0,50\r\n"

-- "New alarm 0"
abbrev pub alarmed : String
alarmed = "6,0,5,0,0,0\r\n0,1,0,1,0,5\r\n1,2,18,0,0,100\r\n1,3,21,0,0,100\r\n3,5,20,1,0,50\r\n3,4,19,1,0,50\r\n"

-- the files of a case of #101 (document 02): v0 < 0 never holds. In the old chart it does not lead to the alarm
abbrev pub old_never : String
old_never = "3,2,3,0,0,0\r\n0,1,18,0,0,0\r\n0,2,21,0,0,0\r\n1,2,0,0,0,1\r\n"

-- in the new one it does
abbrev pub new_never : String
new_never = "3,2,3,0,0,0\r\n0,2,18,0,0,0\r\n0,1,21,0,0,0\r\n1,2,0,0,0,1\r\n"

-- the files of a case of #104 (document 02): behind v0 < 9 the old chart comes to its alarm by an assignment
abbrev pub old_behind : String
old_behind = "4,3,4,0,0,0\r\n0,1,18,0,0,9\r\n0,2,21,0,0,9\r\n1,3,0,1,0,5\r\n2,2,0,2,0,0\r\n"

-- the new one at once
abbrev pub new_behind : String
new_behind = "4,3,3,0,0,0\r\n0,3,18,0,0,9\r\n0,2,21,0,0,9\r\n2,2,0,2,0,0\r\n"

-- "Those with §, gathered as one list checked by one theorem."
unfoldable pub worked : List Case
worked =
    prints old amended "0,3,2,1\r\n0,0,1,1\r\n1,1,130,3\r\n1,2,195,1\r\n195,3,4101,2\r\n195,4,4100,2\r\n"
    -- "old.csv as both"
    ∷ prints old old "0,1,0,1\r\n0,0,65,3\r\n"
    -- "New alarm 0, old 5"
    ∷ prints old alarmed "4096,0,1,0\r\n"
    -- v0=0 ⇒ v0≤v1
    ∷ implied (constant 0 0 0) (variables 3 0 1)
    -- v0<v1 ⇒ v1≠0
    ∷ implied (variables 2 0 1) (constant 1 1 0)
    -- v0<v1 ⇒ v0≤4294967294
    ∷ implied (variables 2 0 1) (constant 3 0 4294967294)
    -- v0<100 ⇒ v0≤99
    ∷ implied (constant 2 0 100) (constant 3 0 99)
    -- v0<0 ⇒ anything
    ∷ anything (constant 2 0 0)
    -- not v0=1 ⇒ v0≤v1
    ∷ not_implied (constant 0 0 1) (variables 3 0 1)
    -- not v0≤v1 ⇒ v1≠0
    ∷ not_implied (variables 3 0 1) (constant 1 1 0)
    -- not v0≤100 ⇒ v0<100
    ∷ not_implied (constant 3 0 100) (constant 2 0 100)
    -- "4294967295 + 1 is 0"
    ∷ sum 4294967295 1 0
    -- "v0 <s 0 implies v0 ≥ 2147483648" (document 02, #102)
    ∷ implied (signed_constant 2 0 0) (constant 5 0 2147483648)
    -- "A new row that never holds has target 65535, nothing is explored behind it" (document 02, #101)
    ∷ prints old_never new_never "0,1,0,1\r\n0,1,129,3\r\n"
    -- "In edition 2 a new assignment without an equal old row, where an old row at the pair writes the same variable,
    -- moves both charts and adds that variable." (document 02, #104)
    ∷ prints_in 2 old amended "0,3,2,1\r\n0,0,65,1\r\n65,1,130,3\r\n65,2,195,1\r\n195,3,4101,2\r\n195,4,4100,2\r\n"
    -- "before a step fails only for meeting the new alarm without the old one, old assignments are followed" (document
    -- 02, #104): not in edition 1
    ∷ prints_in 1 old_behind new_behind "0,1,1,1\r\n0,0,4099,2\r\n0,1,130,3\r\n"
    -- in edition 2, and "the step goes to both alarms and the set gains what was written"
    ∷ prints_in 2 old_behind new_behind "0,1,0,2\r\n0,0,195,3\r\n0,1,130,3\r\n"
    ∷ tracks 2 old_behind new_behind 195 2
    ∷ []
