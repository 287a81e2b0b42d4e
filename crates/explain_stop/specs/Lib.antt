pub mod StopLine
