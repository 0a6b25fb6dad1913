pub mod NoteSteps
