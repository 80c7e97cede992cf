-- One of several parts changed. The parts stand in pairs, each with all that come behind it, so that a change names no
-- part but its own.

-- a change of the first part
abbrev pub first : {A A' B : Type 0} → (A → A') → A × B → A' × B
first f p = (f p.0, p.1)

-- a change of a part behind the first
abbrev pub behind : {A B B' : Type 0} → (B → B') → A × B → A × B'
behind f p = (p.0, f p.1)
