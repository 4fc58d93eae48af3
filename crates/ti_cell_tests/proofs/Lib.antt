pub mod ClearPolls
