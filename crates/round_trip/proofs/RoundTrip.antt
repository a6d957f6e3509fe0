-- The round trips.
use Prim.Native.Nat.{ℕ, ◌^◌, ◌≤◌, ◌<◌}
use mathlib.Core.Bool.{true}
use mathlib.Core.List.{List}
use mathlib.Core.Path.{◌≡◌, refl, sym, ap, ◌∙◌}
use native.Mathlib.Omega.{arith}
use borrow.Author.Tests.{eq-eqb, le-leb}
use lib.IntN.{ℤ}
use lib.ListN.{length, take, length-map}
use lib.Seq.{take_at}
use lib.Ieee.{binary64, of_bits}
use lib.Ieee.Bits.{is_true}
use Rattle.definitions.specs.Sheet.{sheet_numbers}
use Rattle.definitions.specs.Questions.{pass, known_reading, exponent_in_range, question1, question2, question12, question3, size_questions, shape_questions, question4}
use Rattle.definitions.specs.Services.{given}
use Rattle.definitions.specs.File.{Head, head_reading, head_stages, head_unit, file_length, file_questions, head_of, file_answer, file_words, file_numbers}
use Rattle.definitions.specs.Saving.{sheet_file, save_questions, save_answer, sheet_words, saved_words, saved_numbers}
use Rattle.steps.proofs.QuestionLaws.{ask_yes, reading-passed, Reading, leaving_rates, margins, with_weights, reading_is, given_passes, given_is}
use Rattle.shape.proofs.ShapeQuestions.{Sized, save_passed}
use Rattle.payload.specs.SheetFile.{SheetFile}
use Rattle.payload.proofs.FileWords.{file-passed, file-words-length}
use Rattle.saving.proofs.FileBytes.{length-file}
use Rattle.saving.proofs.SheetWords.{length_sheet_words}
use Rattle.round_trip.specs.RoundTrip.{Below, with_unit, LoadsWhatWasSaved, LoadsNumbersThatWereSaved, SavesWhatWasLoaded, SavesNumbersThatWereLoaded}
use Rattle.round_trip.proofs.Loading.{file-reading, file-stages, file-unit, file-passes, file-words}
use Rattle.round_trip.proofs.SavingAgain.{file_again, file-words-below}
use Rattle.round_trip.proofs.NumberWords.{words-below, numbers_back, words-kept}

-- What question 1 says where it passes.
module _ (reading n : ℕ) (e : ℤ) (held room : ℕ) (passes : save_questions reading n e held room ≡ pass) where
  first : question1 reading ≡ pass
  unfolding save_questions
  first = reading-passed reading n e held (question4 (file_length reading n) room) passes

  known : known_reading reading ≡ true
  unfolding question1
  known = is_true (known_reading reading) (ask_yes (known_reading reading) 1 0 0 first)

  narrow : reading < 256 ^ 2
  narrow = go (reading_is reading first)
    where
      go : Reading reading → reading < 256 ^ 2
      go (leaving_rates is) = omega arith
      go (margins is) = omega arith
      go (with_weights is) = omega arith

-- A sheet that is saved: the first bytes of the area are its file.
module _ (reading n : ℕ) (e : ℤ) (words area : List ℕ) {size : ℕ} (saves : save_answer reading n e (length words) (length area) ≡ given size) where
  passes : save_questions reading n e (length words) (length area) ≡ pass
  unfolding save_answer
  passes = given_passes (save_questions reading n e (length words) (length area)) size (file_length reading n) (sym saves)

  handed : size ≡ file_length reading n
  unfolding save_answer
  handed = given_is (save_questions reading n e (length words) (length area)) size (file_length reading n) (sym saves)

  sizes : Sized reading n e (length words)
  sizes = (save_passed reading n e (length words) (length area) passes).0

  file-saved : take size (saved_words reading n e words area) ≡ sheet_file reading n e words
  unfolding saved_words
  file-saved = rw passes (take_at (sheet_file reading n e words) _ size (length-file reading n e words sizes.numbers ∙ sym handed))

  module _ (room : ℕ) (enough : sheet_numbers reading n ≤ room) where
    abbrev file : List ℕ
    file = take size (saved_words reading n e words area)

    answers_back : file_answer file room ≡ given (record { reading = reading; n = n; e = e })
    unfolding file_answer head_of
    answers_back =
        let k = known reading n e (length words) (length area) passes in
        let s = narrow reading n e (length words) (length area) passes in
        rw (file-saved, file-passes reading n e room words k s sizes.least sizes.few sizes.numbers enough sizes.unit, file-reading reading n e room words k s sizes.least sizes.few sizes.numbers enough sizes.unit, file-stages reading n e room words k s sizes.least sizes.few sizes.numbers enough sizes.unit, file-unit reading n e room words k s sizes.least sizes.few sizes.numbers enough sizes.unit)

    words_again : Below (2 ^ 64) words → file_words file ≡ words
    words_again b =
        let k = known reading n e (length words) (length area) passes in
        let s = narrow reading n e (length words) (length area) passes in
        rw file-saved (file-words reading n e room words k s sizes.least sizes.few sizes.numbers enough sizes.unit b)

pub loads_what_was_saved : LoadsWhatWasSaved
unfolding LoadsWhatWasSaved
loads_what_was_saved reading n e words area size room b saves enough =
    (answers_back reading n e words area saves room enough, words_again reading n e words area saves room enough b)

pub loads_numbers : LoadsNumbersThatWereSaved
unfolding LoadsNumbersThatWereSaved saved_numbers file_numbers
loads_numbers reading n e sheet area size room b saves enough =
    let words = sheet_words sheet in
    let saved : save_answer reading n e (length words) (length area) ≡ given size = rw (length_sheet_words sheet) saves in (
      answers_back reading n e words area saved room enough,
      rw (words_again reading n e words area saved room enough (words-below sheet b)) (numbers_back sheet b),
    )

-- A file that is loaded: its words are saved as its bytes.
module _ (bytes area : List ℕ) (head : Head) (room : ℕ) (b : Below 256 bytes) (loads : file_answer bytes room ≡ given head) (fits : length (with_unit bytes) ≤ length area) where
  abbrev reading : ℕ
  reading = head_reading bytes

  abbrev n : ℕ
  n = head_stages bytes

  abbrev e : ℤ
  e = head_unit bytes

  loaded : head ≡ record { reading = reading; n = n; e = e }
  unfolding file_answer head_of
  loaded = given_is (file_questions bytes room) head (head_of bytes) (sym loads)

  sheet : SheetFile bytes n
  unfolding file_answer
  sheet = record { room = room; passes = given_passes (file_questions bytes room) head (head_of bytes) (sym loads); stages = refl }

  all_words : length (file_words bytes) ≡ sheet_numbers reading n
  all_words = file-words-length bytes n sheet

  same_bytes : sheet_file reading n e (file_words bytes) ≡ with_unit bytes
  same_bytes = file_again bytes n b sheet

  same_length : file_length reading n ≡ length (with_unit bytes)
  same_length = sym (length-file reading n e (file_words bytes) all_words) ∙ ap length same_bytes

  asked : save_questions reading n e (length (file_words bytes)) (length area) ≡ pass
  unfolding save_questions shape_questions size_questions question1 question2 question12 question3 question4
  asked =
      let p = file-passed bytes n sheet in
      rw (p.read.reading, le-leb 1 n p.least, le-leb n 32 p.most, is_true (exponent_in_range e) p.read.unit, eq-eqb (length (file_words bytes)) (sheet_numbers reading n) all_words, same_length, le-leb (length (with_unit bytes)) (length area) fits)

  pub saved-answer : save_answer head.reading head.n head.e (length (file_words bytes)) (length area) ≡ given (length (with_unit bytes))
  unfolding save_answer
  saved-answer = rw (loaded, asked, same_length)

  pub saved-bytes : take (length (with_unit bytes)) (saved_words head.reading head.n head.e (file_words bytes) area) ≡ with_unit bytes
  unfolding saved_words
  saved-bytes = rw (loaded, asked, same_bytes) (take_at (with_unit bytes) _ (length (with_unit bytes)) refl)

pub saves_what_was_loaded : SavesWhatWasLoaded
unfolding SavesWhatWasLoaded
saves_what_was_loaded bytes area head room b loads fits = (saved-answer bytes area head room b loads fits, saved-bytes bytes area head room b loads fits)

pub saves-numbers : SavesNumbersThatWereLoaded
unfolding SavesNumbersThatWereLoaded saved_numbers file_numbers
saves-numbers bytes area head room b one loads fits =
    let words = file_words bytes in (
      rw (length-map words (λ word. of_bits binary64 word)) (saved-answer bytes area head room b loads fits),
      rw (words-kept words (file-words-below bytes b) one) (saved-bytes bytes area head room b loads fits),
    )
