pub mod PhraseLaws
