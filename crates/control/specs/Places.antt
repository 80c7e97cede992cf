-- docs/POOL.md, "Requests, steps and moves"
-- The places of the step list, by number: `TaskPlace` of a task holds one of them. A move of a list has three in a row:
-- its head read, its next and its exchange. The places of free's steps 2 to 5 are those of leaving, too: "returned as
-- in free, steps 2 to 6" (the request for leaving). docs/LAYOUT.md has the same table in words.
use Rattle.std.specs.Prelude.{ℕ}

-- no request in hand
abbrev pub IDLE : ℕ
IDLE = 0

-- allocate 1: the cache
abbrev pub A1 : ℕ
A1 = 1

-- allocate 2: pop of a partial descriptor
abbrev pub POP_PARTIAL : ℕ
POP_PARTIAL = 2

-- allocate 5: pop of a spare descriptor
abbrev pub POP_SPARE : ℕ
POP_SPARE = 5

-- allocate 6: pop of a spare region
abbrev pub POP_REGION : ℕ
POP_REGION = 8

-- allocate 3: push of an EMPTY descriptor to the spares
abbrev pub PUSH_RETIRE : ℕ
PUSH_RETIRE = 11

-- allocate 6: push back of the descriptor, since there is no region
abbrev pub PUSH_BACK : ℕ
PUSH_BACK = 14

-- free 4: push of the region to the spare regions
abbrev pub PUSH_RELEASE : ℕ
PUSH_RELEASE = 17

-- free 5: push of the descriptor to the partial list of its class
abbrev pub PUSH_OFFER : ℕ
PUSH_OFFER = 20

-- allocate 3: the anchor is read
abbrev pub A3_READ : ℕ
A3_READ = 23

-- allocate 3: the anchor is exchanged
abbrev pub A3_EXCHANGE : ℕ
A3_EXCHANGE = 24

-- allocate 4: one block of the taken chain goes to the cache
abbrev pub A4 : ℕ
A4 = 25

-- allocate 7: descriptor, map and anchor of the new region
abbrev pub A7 : ℕ
A7 = 26

-- allocate 8: one block is carved into the cache
abbrev pub A8 : ℕ
A8 = 27

-- free 1: the cache
abbrev pub F1 : ℕ
F1 = 28

-- free 2: one block of the group, or its closing
abbrev pub F2 : ℕ
F2 = 29

-- free 3: the anchor is read
abbrev pub F3_READ : ℕ
F3_READ = 30

-- free 3: the last link of the group is written
abbrev pub F3_LINK : ℕ
F3_LINK = 31

-- free 3: the anchor is exchanged
abbrev pub F3_EXCHANGE : ℕ
F3_EXCHANGE = 32

-- free 4: the map entry is cleared
abbrev pub F4_CLEAR : ℕ
F4_CLEAR = 33

-- a strip's request, to take: "Such a request, to take or to free, finishes, or ends with 16, in its first step"
abbrev pub STRIP_TAKE : ℕ
STRIP_TAKE = 34

-- a strip's request, to free
abbrev pub STRIP_GIVE : ℕ
STRIP_GIVE = 35

-- leaving: "one further step, after all are empty, finishes the request" (the request for leaving)
abbrev pub LEAVE_END : ℕ
LEAVE_END = 36

-- how many places there are, that of an idle task with them
abbrev pub PLACES : ℕ
PLACES = 37

-- the next of a move is so many places past its head read
abbrev pub TO_NEXT : ℕ
TO_NEXT = 1

-- the exchange of a move is so many places past its head read
abbrev pub TO_EXCHANGE : ℕ
TO_EXCHANGE = 2
