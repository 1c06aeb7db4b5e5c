-- Where the player stands between two lines: which lines of the text are left, what holds there, and what asking for a line gives.
-- Rests on the text.
use Rattle.std.specs.Prelude.{ℕ, ◌+◌, ◌-◌, ◌*◌, ◌≤◌, ◌≡◌, refl, List, [], ◌∷◌, length, take, drop, Option, Some, None}
use Rattle.play.specs.Text.{played, length_at, sheet_in, instants_due, instants_text, bytes_text, play_text}
use Rattle.play.specs.declared.Progress.{Progress}
use Rattle.play.specs.declared.Stage.{Stage}
use Rattle.play.specs.declared.Stage.TheVariants.{Begin, Playing, Over}
use Rattle.play.specs.declared.Line.{Line}

-- the progress before the first instant: by the counts of the sheet, the place of its rows and their bytes
abbrev pub first_instant : (inputs outputs cells at rows : ℕ) → Progress
first_instant inputs outputs cells at rows = record {
  input = 4 * inputs;
  output = 4 * outputs;
  memory = 5 * cells;
  turn = 0;
  due = instants_due (4 * inputs) rows;
  at = at;
}

-- the progress after one instant more
abbrev pub next_instant : Progress → Progress
next_instant p = record {
  input = p.input;
  output = p.output;
  memory = p.memory;
  turn = p.turn + 1;
  due = p.due - 1;
  at = p.at + p.input;
}

module _ (bytes : List ℕ) where
  -- The lines that are left of the text of these bytes. Of the memory the sheet's cells count, and only while instants are due: what it
  -- holds behind them, and once the text is over, is free.
  abbrev pub lines_left : Stage → (memory : List ℕ) → List (List ℕ)
  lines_left Begin memory = bytes_text bytes
  lines_left (Playing p) memory =
      instants_text (sheet_in bytes) p.input p.output p.due p.turn (take p.memory memory) (drop p.at bytes)
  lines_left Over memory = []

  -- the sheet and the rows that are due lie within the bytes, and the buffers have room for what the sheet's sizes say
  pub record Ready (p : Progress) : Type 0 where
    pub sheet : 2 + length_at bytes ≤ length bytes
    pub rows : p.at + p.due * p.input ≤ length bytes
    pub turns : p.turn + p.due ≤ 65536
    pub memory : p.memory ≤ 320
    pub output : p.output ≤ 64

  -- what holds between two lines
  abbrev pub Between : Stage → Type 0
  Between Begin = Unit {0}
  Between (Playing p) = Ready p
  Between Over = Unit {0}

  -- the lines that an answer stands for: the one in the buffer, and those left behind it
  abbrev pub lines_by : Option Line → (text memory : List ℕ) → List (List ℕ)
  lines_by None text memory = []
  lines_by (Some line) text memory = take line.size text ∷ lines_left line.stage memory

-- the bytes of the line that is given, and where the player then stands
abbrev pub size_by : Option Line → ℕ
size_by None = 0
size_by (Some line) = line.size

abbrev pub stage_by : Option Line → Stage
stage_by None = Over
stage_by (Some line) = line.stage

-- what asking for a line gives, where these lines were left: the first of them, if there is one, at the start of the buffer
pub record Gives (bytes : List ℕ) (left : List (List ℕ)) (before : List ℕ) (answer : Option Line) (text memory : List ℕ) : Type 0 where
  pub lines : left ≡ lines_by bytes answer text memory
  pub behind : drop (size_by answer) text ≡ drop (size_by answer) before
  pub within : size_by answer ≤ length text
  pub between : Between bytes (stage_by answer)

-- what the functions behind that one ask of the bytes and of the buffers
pub record Room (bytes memory text : List ℕ) : Type 0 where
  pub few : length bytes ≤ 65536
  pub cells : 320 ≤ length memory
  pub line : 256 ≤ length text

-- at the beginning the whole text is left
pub begins : (input memory : List ℕ) → lines_left (played input) Begin memory ≡ play_text input
begins input memory = refl
