-- The last line of a run or of several tasks (docs/FORMATS.md, "What is printed").
use Rattle.std.specs.Prelude.{ℕ, List, ◌++◌, codes, decimal}

-- the count line of a run: plain steps, kernel services, pages made
unfoldable pub count_text : (natural entries pages : ℕ) → List ℕ
count_text natural entries pages = codes "natural " ++ decimal natural ++ codes " entries " ++ decimal entries ++ codes " pages " ++ decimal pages ++ codes "\n"

-- the last line of several tasks, with the changes of the task
unfoldable pub tasks_count_text : (natural entries pages switches : ℕ) → List ℕ
tasks_count_text natural entries pages switches =
    codes "natural " ++ decimal natural ++ codes " entries " ++ decimal entries ++ codes " pages " ++ decimal pages ++ codes " switches " ++ decimal switches ++ codes "\n"
