mod Printed
mod LineFaults
mod Said
mod Columns
mod LinesMore
